use Rattle.std.proofs.Common.{◌≡◌, ◌∙◌, ◌+◌, ◌-◌, ◌*◌, ◌<◌, ◌≤◌, ◌↔◌, ℕ, List, suc, true, cond, nat_eq, length, ap}
use Rattle.std.proofs.Common.{sym, subst, inl, inr, arith, rules}
use Rattle.std.proofs.lemmas.Bool.{cases_lt}
use Rattle.std.proofs.lemmas.List.{get_or_read}
use Rattle.board_text.specs.Domination.{has_bit}
use Rattle.board_text.specs.PlainBoard.{PlainBoard, places}
use Rattle.board_text.specs.declared.board.TheConstants.{MAX_LABELS}
use Rattle.board_text.proofs.Cited.{labels_and_places}
use Rattle.classes.specs.Classes.{IsClass}
use Rattle.classes.specs.ClassGaps.{member_with}
use Rattle.classes.specs.Numbers.{ways}
use Rattle.classes.specs.declared.families.Family.{Family}
use Rattle.gap_values.specs.Inside.Counts.{AreMore, IsAboveRounds, class_word, made_among, made_by, made_by_bits, once}
use Rattle.gap_values.specs.Inside.Counts.{weight_with}
use Rattle.classes.specs.FamilyWalks.{IsFamilyOf, IsGapOf}
use Rattle.gap_values.specs.Inside.Sets.{TellClosed}
use Rattle.gap_values.proofs.ClassCounts.{word-low}
use Rattle.classes.proofs.Cited.{held-long, member-below, member-class, member-few, place-low}
use Rattle.gap_values.proofs.GapCounts.{all-places, bits-made-few, made-at-zero, more-joined, more-same, none-among}
use Rattle.gap_values.proofs.GapCounts.{room-more, room-up}
use Rattle.gap_values.proofs.UnclosedLabels.{word-below}
use Rattle.gap_values.proofs.Weighing.{gap-size}
use Rattle.gap_values.proofs.Words.{least-few, result-is}
use Rattle.gap_values.proofs.gap_sizes.count_gap.Given.{Over}
use Rattle.gap_values.proofs.gap_sizes.count_gap.Goals as goal
use Rattle.gap_values.proofs.gap_sizes.count_gap.Goals.{Start, After-places, After-unclosed-lasting}

module _ (g : Over) (c : Start g) where
  abbrev b : PlainBoard
  b = c.args.numbers.now

  abbrev f : Family
  f = c.args.gap.now.family.now

  long : length f.held ≡ b.pebbles - 2
  long = held-long b (b.pebbles - 2) f c.requires.family

  own : IsFamilyOf b (length f.held) f
  own = subst (λ n. IsFamilyOf b n f) (sym long) c.requires.family

  few : length f.held + 1 < b.pebbles
  few = let size = long in let some = c.requires.some in omega (arith, size, some)

  one : length f.held + 1 ≡ b.pebbles - 1
  one = let size = long in let some = c.requires.some in omega (arith, size, some)

  is-gap : (member : Family) → IsFamilyOf b (length f.held + 1) member → member.held
      ≡ member_with f.held c.args.gap.now.least
      → IsGapOf b f c.args.gap.now.least member
  is-gap member is held = record { inside = c.requires.least; is_family = own; few = few; is_gap = is; held_is = held }

pub overflow_add-least : goal.overflow_add-least
overflow_add-least g c =
    let low = place-low c.args.numbers.now (c.args.numbers.now.pebbles - 2) c.args.gap.now.family.now c.requires.family
    c.args.gap.now.least c.requires.least in
    let most = (labels_and_places c.args.numbers.now).1 in
    let few = c.requires.family.is_board.labels.1 in
    let fits : c.args.gap.now.least + 1 ≤ 65535 = omega (arith, low, most, few) in
    search (rules, fits)

pub member_family-member-requires-clause-small : goal.member_family-member-requires-clause-small
member_family-member-requires-clause-small g c = few g (goal.at.member_family-member-requires-clause-small g c).Start

pub member_family-member-requires-clause-family : goal.member_family-member-requires-clause-family
member_family-member-requires-clause-family g c = own g (goal.at.member_family-member-requires-clause-family g c).Start

pub member_family-member-requires-clause-lowest : goal.member_family-member-requires-clause-lowest
member_family-member-requires-clause-lowest g c =
    subst (λ n. IsFamilyOf c.args.numbers.now n c.args.gap.now.lowest.now)
    (sym (one g (goal.at.member_family-member-requires-clause-lowest g c).Start)) c.requires.lowest

pub count_each-requires-clause-gap : goal.count_each-requires-clause-gap
count_each-requires-clause-gap g c =
    subst (λ n. IsFamilyOf c.args.numbers.now n c.member_family-member.result)
    (one g (goal.at.count_each-requires-clause-gap g c).Start) c.member_family-member.ensures.family

pub returns-then-least-places : goal.returns-then-least-places
returns-then-least-places g c =
    let at = (goal.at.returns-then-least-places g c).Start in
    let member = c.member_family-member.result in
    let size : member.size ≡ c.args.gap.now.least + 1 =
    gap-size c.args.numbers.now c.args.gap.now.family.now c.args.gap.now.least member
    (is-gap g at member c.member_family-member.ensures.family c.member_family-member.ensures.held) in
    subst (λ n. AreMore c.args.sizes.now c.count_each.new.sizes
    (made_by c.args.numbers.now c.args.rounds.now.words.items
    (member_with c.args.gap.now.family.now.held c.args.gap.now.least) n
    c.args.weights.now)) size
    (subst (λ (l : List ℕ). AreMore c.args.sizes.now c.count_each.new.sizes
    (made_by c.args.numbers.now c.args.rounds.now.words.items l member.size c.args.weights.now))
    c.member_family-member.ensures.held
    (subst (λ (l : List ℕ). AreMore c.args.sizes.now c.count_each.new.sizes
    (made_by c.args.numbers.now l member.held member.size c.args.weights.now)) c.deref.ensures.value
    c.count_each.ensures))

pub overflow_add-family : goal.overflow_add-family
overflow_add-family g c =
    let most = member-few c.args.numbers.now (c.args.numbers.now.pebbles - 2) c.args.gap.now.family.now
    c.requires.family
    c.args.gap.now.least c.requires.least (let some = c.requires.some in omega (arith, some)) in
    search (rules, most)

inside : (g : Over) (c : Start g) → c.args.gap.now.family.now.start + c.args.gap.now.least < length
    c.args.rounds.now.words.items
inside g c =
    let some = c.requires.some in
    let more : suc (c.args.numbers.now.pebbles - 2) ≡ c.args.numbers.now.pebbles - 1 = omega (arith, some) in
    let below = member-below c.args.numbers.now (c.args.numbers.now.pebbles - 2) c.args.gap.now.family.now
    c.requires.family
    c.args.gap.now.least c.requires.least in
    let size = c.requires.rounds.words.size in
    omega (arith, below, size, ap (λ n. ways n (places c.args.numbers.now)) more)

pub index-word-requires : goal.index-word-requires
index-word-requires g c =
    let low = inside g (goal.at.index-word-requires g c).Start in search (rules, low)

-- the least place is that of a label
label : (g : Over) (c : After-places g) → (c.args.gap.now.least + 1 ≡ c.places.result → ⊥)
    → c.args.gap.now.least < c.args.numbers.now.labels
label g c differs =
    let low = place-low c.args.numbers.now (c.args.numbers.now.pebbles - 2) c.args.gap.now.family.now c.requires.family
    c.args.gap.now.least c.requires.least in
    let most = (labels_and_places c.args.numbers.now).1 in
    omega (arith, low, most, c.places.ensures.value, differs)

small : (g : Over) (c : After-places g) → (c.args.gap.now.least + 1 ≡ c.places.result → ⊥)
    → c.args.gap.now.least < MAX_LABELS
small g c differs =
    let low = label g c differs in let most = c.requires.family.is_board.labels.1 in omega (arith, low, most)

is-label : (g : Over) (c : After-places g) → (c.args.gap.now.least + 1 ≡ c.places.result → ⊥)
    → c.args.gap.now.least + 1 < places c.args.numbers.now
is-label g c differs =
    let low = place-low c.args.numbers.now (c.args.numbers.now.pebbles - 2) c.args.gap.now.family.now c.requires.family
    c.args.gap.now.least c.requires.least in
    omega (arith, low, c.places.ensures.value, differs)

-- the word of the gap is 0
pub count-requires-clause-word : goal.count-requires-clause-word
count-requires-clause-word g c = λ some.
    let low = inside g (goal.at.count-requires-clause-word g c).Start in
    let words = c.args.rounds.now.words.items in
    let read = get_or_read words (c.args.gap.now.family.now.start + c.args.gap.now.least) c.index-word.result.now low
    c.index-word.ensures 0 in
    let under = c.requires.above.above (c.args.gap.now.family.now.start + c.args.gap.now.least) low
    (omega (arith, read, c.if-word-eq0.true)) in
    inr (omega (arith, under))

pub returns-then-word-eq0 : goal.returns-then-word-eq0
returns-then-word-eq0 g c =
    let at = goal.at.returns-then-word-eq0 g c in
    let b = c.args.numbers.now in
    let words : List ℕ = c.args.rounds.now.words.items in
    let gap : List ℕ = member_with c.args.gap.now.family.now.held c.args.gap.now.least in
    let some = c.requires.some in
    let label = label g at.After-places c.if-least-places.false in
    let none : (x : ℕ) → x < c.args.gap.now.least + 1 → class_word b words gap x ≡ 0 = λ x low.
    let below = word-below b words c.args.rounds.now.first.items c.args.gap.now.family.now c.args.gap.now.least
    c.index-word.result.now 1 some c.requires.family c.requires.least (c.requires.rounds.first some) (omega arith)
    (get_or_read words (c.args.gap.now.family.now.start + c.args.gap.now.least) c.index-word.result.now
    (inside g at.Start)
    c.index-word.ensures 0) (omega (arith, c.if-word-eq0.true)) x (omega (arith, low, label)) in
    omega (arith, below)
    in
    more-same c.args.sizes.now c.count.new.self
    (once 0 (c.args.weights.now.each * c.args.gap.now.least + c.args.weights.now.last))
    (made_by b words gap (c.args.gap.now.least + 1) c.args.weights.now) c.count.ensures
    (λ wanted. made-at-zero (class_word b words gap) c.args.weights.now c.args.gap.now.least wanted none)

-- what the rows of bits say
module _ (g : Over) (c : After-unclosed-lasting g) (low_words : c.args.gap.now.family.now.start + c.args.gap.now.least
    < length c.args.rounds.now.words.items) (label : c.args.gap.now.least < c.args.numbers.now.labels)
    (is_label : c.args.gap.now.least + 1 < places c.args.numbers.now) where
  abbrev words : List ℕ
  words = c.args.rounds.now.words.items

  abbrev gap : List ℕ
  gap = member_with c.args.gap.now.family.now.held c.args.gap.now.least

  abbrev word : ℕ → ℕ
  word = class_word c.args.numbers.now words gap

  in-upto : (x : ℕ) → x < c.args.gap.now.least + 1 → has_bit c.args.gap.now.upto x ≡ true
  in-upto x low =
      let most = c.requires.family.is_board.labels.1 in
      (c.requires.upto is_label x (omega (arith, low, label, most))).1 (omega (arith, low))

  positive-is : (x : ℕ) → x < c.args.gap.now.least + 1 → (has_bit c.unclosed-positive.result x ≡ true) ↔ (1 ≤ word x)
  positive-is x low =
      let some = c.requires.some in
      let is = c.unclosed-positive.ensures.labels c.args.numbers.now words some c.requires.family
      (subst (λ (l : List (List ℕ)). TellClosed c.args.numbers.now words 1 l) (sym c.deref-2.ensures.value)
      (c.requires.rounds.first some)) (omega arith)
      (get_or_read words (c.args.gap.now.family.now.start + c.args.gap.now.least) c.index-word.result.now
      low_words c.index-word.ensures 0) x (omega (arith, low, label)) in
      (λ has. (is.0 has).1, λ above. is.1 (in-upto x low, above))

  lasting-is : (x : ℕ) → x < c.args.gap.now.least + 1 → (has_bit c.unclosed-lasting.result x ≡ true) ↔
      (4294967295 ≤ word x)
  lasting-is x low =
      let some = c.requires.some in
      let is = c.unclosed-lasting.ensures.labels c.args.numbers.now words some c.requires.family
      (subst (λ (l : List (List ℕ)). TellClosed c.args.numbers.now words 4294967295 l) (sym c.deref-3.ensures.value)
      (c.requires.rounds.closed some)) (omega arith)
      (get_or_read words (c.args.gap.now.family.now.start + c.args.gap.now.least) c.index-word.result.now
      low_words c.index-word.ensures 0) x (omega (arith, low, label)) in
      (λ has. (is.0 has).1, λ above. is.1 (in-upto x low, above))

  word-few : (x : ℕ) → x < c.args.gap.now.least + 1 → word x ≤ 4294967295
  word-few x low = least-few words (member_with gap x) c.args.numbers.now.pebbles

  gap-is : IsClass (places c.args.numbers.now) (c.args.numbers.now.pebbles - 1) gap
  gap-is =
      let some = c.requires.some in
      let more : suc (c.args.numbers.now.pebbles - 2) ≡ c.args.numbers.now.pebbles - 1 = omega (arith, some) in
      subst (λ n. IsClass (places c.args.numbers.now) n gap) more
      (member-class c.args.numbers.now (c.args.numbers.now.pebbles - 2) c.args.gap.now.family.now c.requires.family
      c.args.gap.now.least c.requires.least)

  some-word : (x : ℕ) → x ≤ c.args.gap.now.least → (has_bit c.unclosed-positive.result x ≡ true → ⊥)
      → 0 < length c.args.sizes.now.finite.items
  some-word x most out =
      let none : word x ≡ 0 =
      elim (cases_lt (word x) 1) [
        | inl less ↦ omega arith
        | inr more ↦ absurd (out ((positive-is x (omega (arith, most))).1 more))
      ] in
      let less = word-low c.args.numbers.now words (member_with gap x) (length c.args.sizes.now.finite.items)
      c.requires.family.is_board c.requires.rounds.words.size c.requires.above.above
      (result-is c.args.numbers.now gap x c.requires.family.is_board gap-is (omega (arith, most, label)))
      (omega (arith, none)) in
      omega (arith, less)

  -- rows of bits and the places among them make all
  all-made : (among : List ℕ) → ((x : ℕ) → x < MAX_LABELS → (has_bit among x ≡ true)
      ↔ ((has_bit c.unclosed-positive.result x ≡ true) × (has_bit c.unclosed-lasting.result x ≡ true → ⊥)))
      → (wanted : ℕ)
      → made_by_bits c.unclosed-positive.result c.unclosed-lasting.result
      (c.args.gap.now.least + 1) c.args.weights.now wanted
      + made_among c.args.numbers.now words gap (c.args.gap.now.least + 1) c.args.weights.now among wanted
      ≡ made_by c.args.numbers.now words gap (c.args.gap.now.least + 1) c.args.weights.now wanted
  all-made among among_is wanted =
      let most = c.requires.family.is_board.labels.1 in
      all-places c.unclosed-positive.result c.unclosed-lasting.result among word
      (weight_with c.args.weights.now (c.args.gap.now.least + 1)) (c.args.gap.now.least + 1) positive-is lasting-is
      (λ x low. among_is x (omega (arith, low, label, most))) word-few wanted

pub count_by_bits-requires : goal.count_by_bits-requires
count_by_bits-requires g c =
    let at = goal.at.count_by_bits-requires g c in
    let upto = c.requires.upto (is-label g at.After-places c.if-least-places.false) in
    let low = label g at.After-places c.if-least-places.false in
    let some = some-word g at.After-unclosed-lasting (inside g at.Start) low
    (is-label g at.After-places c.if-least-places.false) in
    let room = room-up c.args.sizes.now 207458501411267280 300000000000000000 c.requires.room (omega arith) in (
      omega (arith, c.requires.narrow),
      (
        c.requires.narrow,
        (
          omega (arith, low, c.requires.fits),
          (
            λ x under has. (upto x under).0 (c.unclosed-positive.ensures.within x under has),
            (
              λ x under has. (upto x under).0 (c.unclosed-lasting.ensures.within x under has),
              (c.requires.weights, (some, (omega (arith, c.requires.above.few), room))),
            ),
          ),
        ),
      ),
    )

pub member_family-member-requires-then-not-is_empty-clause-small :
    goal.member_family-member-requires-then-not-is_empty-clause-small
member_family-member-requires-then-not-is_empty-clause-small g c =
    few g (goal.at.member_family-member-requires-then-not-is_empty-clause-small g c).Start

pub member_family-member-requires-then-not-is_empty-clause-family :
    goal.member_family-member-requires-then-not-is_empty-clause-family
member_family-member-requires-then-not-is_empty-clause-family g c =
    own g (goal.at.member_family-member-requires-then-not-is_empty-clause-family g c).Start

pub member_family-member-requires-then-not-is_empty-clause-lowest :
    goal.member_family-member-requires-then-not-is_empty-clause-lowest
member_family-member-requires-then-not-is_empty-clause-lowest g c =
    subst (λ n. IsFamilyOf c.args.numbers.now n c.args.gap.now.lowest.now)
    (sym (one g (goal.at.member_family-member-requires-then-not-is_empty-clause-lowest g c).Start)) c.requires.lowest

pub count_among-requires : goal.count_among-requires
count_among-requires g c =
    let at = goal.at.count_among-requires g c in
    let b = c.args.numbers.now in
    let member = c.member_family-member-then-not-is_empty.result in
    let is = c.member_family-member-then-not-is_empty.ensures in
    let size = gap-size b c.args.gap.now.family.now c.args.gap.now.least member
    (is-gap g at.Start member is.family is.held) in
    let low = label g at.After-places c.if-least-places.false in
    let few = small g at.After-places c.if-least-places.false in
    let words = ap length c.deref-then-not-is_empty.ensures.value ∙ c.requires.rounds.words.size in
    let family = subst (λ n. IsFamilyOf b n member) (one g at.Start) is.family in
    let above = subst (λ (l : List ℕ). IsAboveRounds l (length c.count_by_bits.new.sizes.finite.items))
    (sym c.deref-then-not-is_empty.ensures.value)
    (subst (IsAboveRounds c.args.rounds.now.words.items) (sym c.count_by_bits.ensures.size) c.requires.above) in
    let room = room-more c.args.sizes.now c.count_by_bits.new.sizes
    (made_by_bits c.unclosed-positive.result c.unclosed-lasting.result (c.args.gap.now.least + 1) c.args.weights.now)
    207458501411267280 92541498588732720 c.requires.room c.count_by_bits.ensures (λ word.
    let made = bits-made-few c.unclosed-positive.result c.unclosed-lasting.result c.args.weights.now
    (c.args.gap.now.least + 1) word c.requires.weights in
    omega (arith, made, few)) in (
      omega (arith, c.requires.narrow),
      (
        words,
        (
          family,
          (
            omega (arith, size, low, c.requires.fits),
            (c.requires.weights, (above, room)),
          ),
        ),
      ),
    )

pub returns-then-not-is_empty : goal.returns-then-not-is_empty
returns-then-not-is_empty g c =
    let at = goal.at.returns-then-not-is_empty g c in
    let member = c.member_family-member-then-not-is_empty.result in
    let size : member.size ≡ c.args.gap.now.least + 1 =
    gap-size c.args.numbers.now c.args.gap.now.family.now c.args.gap.now.least member
    (is-gap g at.Start member c.member_family-member-then-not-is_empty.ensures.family
    c.member_family-member-then-not-is_empty.ensures.held) in
    let words : List ℕ = c.args.rounds.now.words.items in
    let gap : List ℕ = member_with c.args.gap.now.family.now.held c.args.gap.now.least in
    let among : List ℕ = c.without-middle.result in
    more-joined c.args.sizes.now c.count_by_bits.new.sizes c.count_among.new.sizes
    (made_by_bits c.unclosed-positive.result c.unclosed-lasting.result (c.args.gap.now.least + 1) c.args.weights.now)
    (made_among c.args.numbers.now words gap (c.args.gap.now.least + 1) c.args.weights.now among)
    (made_by c.args.numbers.now words gap (c.args.gap.now.least + 1) c.args.weights.now) c.count_by_bits.ensures
    (subst (λ n. AreMore c.count_by_bits.new.sizes c.count_among.new.sizes
    (made_among c.args.numbers.now words gap n c.args.weights.now among)) size
    (subst (λ (l : List ℕ). AreMore c.count_by_bits.new.sizes c.count_among.new.sizes
    (made_among c.args.numbers.now words l member.size c.args.weights.now among))
    c.member_family-member-then-not-is_empty.ensures.held
    (subst (λ (l : List ℕ). AreMore c.count_by_bits.new.sizes c.count_among.new.sizes
    (made_among c.args.numbers.now l member.held member.size c.args.weights.now among))
    c.deref-then-not-is_empty.ensures.value
    c.count_among.ensures)))
    (all-made g at.After-unclosed-lasting (inside g at.Start) (label g at.After-places c.if-least-places.false)
    (is-label g at.After-places c.if-least-places.false) among
    c.without-middle.ensures)

pub returns-else-not-is_empty : goal.returns-else-not-is_empty
returns-else-not-is_empty g c =
    let at = goal.at.returns-else-not-is_empty g c in
    let words : List ℕ = c.args.rounds.now.words.items in
    let gap : List ℕ = member_with c.args.gap.now.family.now.held c.args.gap.now.least in
    let among : List ℕ = c.without-middle.result in
    let empty = c.is_empty.ensures.0 (let not_so = c.if-not-is_empty.false in cc) in
    let low = small g at.After-places c.if-least-places.false in
    more-same c.args.sizes.now c.count_by_bits.new.sizes
    (made_by_bits c.unclosed-positive.result c.unclosed-lasting.result (c.args.gap.now.least + 1) c.args.weights.now)
    (made_by c.args.numbers.now words gap (c.args.gap.now.least + 1) c.args.weights.now) c.count_by_bits.ensures
    (λ wanted.
    let all = all-made g at.After-unclosed-lasting (inside g at.Start) (label g at.After-places c.if-least-places.false)
    (is-label g at.After-places c.if-least-places.false) among
    c.without-middle.ensures wanted in
    let none : made_among c.args.numbers.now words gap (c.args.gap.now.least + 1) c.args.weights.now among wanted ≡ 0 =
    none-among among (c.args.gap.now.least + 1)
    (λ x. cond (nat_eq (class_word c.args.numbers.now words gap x) wanted)
    (weight_with c.args.weights.now (c.args.gap.now.least + 1) x) 0)
    (λ x under. empty x (omega (arith, under, low))) in
    omega (arith, all, none))
