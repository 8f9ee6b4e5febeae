-- Configurations are counted class by class.
use Rattle.std.proofs.Common.{◌≡◌, ◌≢◌, ℕ, suc, ◌+◌, ◌-◌, ◌<◌, ◌≤◌, Bool, cond, nat_eq, List, length, get_or}
use Rattle.std.proofs.Common.{map, take, sym, ap, ◌∙◌, subst, inl, inr, arith, eq-eqb, ne_eqb, eqb-true}
use Rattle.std.specs.List.{range_with_len, remove}
use Rattle.std.proofs.lemmas.Bool.{cases_lt}
use Rattle.std.proofs.lemmas.List.{get_or-take, get_or_past, length-take-le}
use Rattle.std.proofs.lemmas.List.Elements.{Contains-get_or}
use Rattle.std.proofs.lemmas.List.FromFn.{get_or-map-range_with_len, length-map-range_with_len}
use Rattle.board_text.specs.PlainBoard.{PlainBoard, IsBoard, IsConfiguration, places}
use Rattle.positions.specs.Laws.{Occurs}
use Rattle.positions.specs.Ranks.{configurations, configuration_at, rank_of}
use Rattle.positions.specs.declared.value.Value.TheVariants.{Finite, Forever}
use Rattle.classes.specs.Classes.{IsClass, class_of, put}
use Rattle.positions.specs.Value.{HasValue}
use Rattle.positions.proofs.Cited.{configuration_at-rank_of, configuration_at_is, rank_below, same_value, size_zero}
use Rattle.classes.specs.Numbers.{ways, number_by_greatest, class_with}
use Rattle.classes.specs.Sums.{sum_below}
use Rattle.classes.specs.Weights.{AreWeights, HasWeight}
use Rattle.classes.proofs.Cited.{counted-values, ways-fit, with-is, orders, orders-weigh, weight-orders, sum-zero}
use Rattle.classes.proofs.Cited.{sum-suc, sum-same, edge-begins, edge-is, edge-within, member-class, member-with}
use Rattle.classes.proofs.Cited.{some-lists, gap-below}
use Rattle.classes.specs.declared.families.Family.{Family}
use Rattle.gap_values.specs.declared.sizes.Sizes.{Sizes}
use Rattle.gap_values.specs.Inside.Counts.{AreCounted, AreSizesBetween, IsAboveRounds, IsCountBetween, IsTrimmed}
use Rattle.gap_values.specs.Inside.Counts.{counted, word_at}
use Rattle.classes.specs.FamilyWalks.{IsFamilyOf}
use Rattle.gap_values.specs.Sizes.{HasValueCount, AreValueCounts}
use Rattle.gap_values.specs.Inside.Words.{gap_table, least_word, AreGapWords, AreRounds}
use Rattle.gap_values.specs.RoundWords.{round_of_word}
use Rattle.gap_values.proofs.ClosedGaps.{first-closed, class-configuration, class-is, value-of-class}
use Rattle.gap_values.specs.GapTables.{IsClosedBefore}
use Rattle.gap_values.proofs.Words.{before-from, before-to, round-finite, round-none, least-is, least-few, leasts}

abbrev pub class_at : PlainBoard → ℕ → List ℕ
class_at board number = class_with (places board) board.pebbles number

-- the word of a family's member
pub word-of-member : (b : PlainBoard) (words : List ℕ) (f : Family) (least word : ℕ)
    → IsFamilyOf b (b.pebbles - 1) f → least < f.size → word ≡ least_word words (put least f.held) b.pebbles
    → word_at b words (f.start + least) ≡ word
word-of-member b words f least word family low word_is =
    let some = family.is_board.pebbles.0 in
    let one : suc (b.pebbles - 1) ≡ b.pebbles = omega arith in
    ap (λ l. least_word words l b.pebbles)
    (ap (λ n. class_with (places b) n (f.start + least)) (sym one)
    ∙ member-with b (b.pebbles - 1) f family least low)
    ∙ sym word_is

pub counting-begins : (board : PlainBoard) (words : List ℕ) (wanted from : ℕ)
    → IsCountBetween board words wanted from from 0
counting-begins board words wanted from = record { is = λ weight are. omega arith; few = omega arith }

-- a class of the wanted word
pub counting-more : (board : PlainBoard) (words : List ℕ) (wanted from number count weight : ℕ)
    → IsCountBetween board words wanted from number count
    → word_at board words number ≡ wanted
    → HasWeight (places board) board.pebbles number weight → weight ≤ 720
    → IsCountBetween board words wanted from (number + 1) (count + weight)
counting-more board words wanted from number count own was same has few =
    let next : number + 1 ≡ suc number = omega arith in
    record {
      is = λ weight are.
          let term : ℕ → ℕ = λ n. cond (nat_eq (word_at board words n) wanted) (weight n) 0 in
          let here : term number ≡ own =
          ap (λ t. cond t (weight number) 0) (eq-eqb (word_at board words number) wanted same)
          ∙ weight-orders (places board) board.pebbles number (weight number) (are number)
          ∙ sym (weight-orders (places board) board.pebbles number own has) in
          let more : sum_below (suc number) term ≡ sum_below number term + term number = sum-suc number term in
          let before : count + sum_below from term ≡ sum_below number term = was.is weight are in
          (let sum : count + own + sum_below from term ≡ sum_below (suc number) term = omega arith in sum)
          ∙ ap (counted board words weight wanted) (sym next);
      few = (let most = was.few in omega (arith, most, few));
    }

-- a class of another word
pub counting-same : (board : PlainBoard) (words : List ℕ) (wanted from number count : ℕ)
    → IsCountBetween board words wanted from number count
    → word_at board words number ≢ wanted
    → IsCountBetween board words wanted from (number + 1) count
counting-same board words wanted from number count was differ =
    let next : number + 1 ≡ suc number = omega arith in
    record {
      is = λ weight are.
          let term : ℕ → ℕ = λ n. cond (nat_eq (word_at board words n) wanted) (weight n) 0 in
          let here : term number ≡ 0 =
          ap (λ t. cond t (weight number) 0) (ne_eqb (word_at board words number) wanted differ) in
          let more : sum_below (suc number) term ≡ sum_below number term + term number = sum-suc number term in
          let before : count + sum_below from term ≡ sum_below number term = was.is weight are in
          (let sum : count + sum_below from term ≡ sum_below (suc number) term = omega arith in sum)
          ∙ ap (counted board words weight wanted) (sym next);
      few = (let most = was.few in omega (arith, most));
    }

-- the classes up to a number, and those from there on
pub counting-joined : (board : PlainBoard) (words : List ℕ) (wanted from middle to first second : ℕ)
    → IsCountBetween board words wanted from middle first → IsCountBetween board words wanted middle to second
    → IsCountBetween board words wanted from to (first + second)
counting-joined board words wanted from middle to first second one two = record {
  is = λ weight are.
      let before : first + counted board words weight wanted from ≡ counted board words weight wanted middle =
      one.is weight are in
      let behind : second + counted board words weight wanted middle ≡ counted board words weight wanted to =
      two.is weight are in
      omega arith;
  few = (let some = one.few in let more = two.few in omega (arith, some, more));
}

-- ---- the words of classes are their values

-- two words of one round are equal
same-word : (one other : ℕ) → one ≤ 4294967295 → other ≤ 4294967295 → round_of_word one ≡ round_of_word other
    → one ≡ other
same-word one other few also same = elim (cases_lt one 4294967295) [
  | inl low ↦
      let there = before-to other (suc one)
      (subst (λ v. IsClosedBefore v (suc one)) same (before-from one (suc one) (omega arith) low)) in
      let back = before-to one (suc other)
      (subst (λ v. IsClosedBefore v (suc other)) (sym same) (before-from other (suc other) (omega arith) there.1)) in
      omega (arith, there.0, back.0)
  | inr high ↦ elim (cases_lt other 4294967295) [
    | inl low ↦
        let back = before-to one (suc other)
        (subst (λ v. IsClosedBefore v (suc other)) (sym same) (before-from other (suc other) (omega arith) low)) in
        absurd (omega (arith, back.1))
    | inr past ↦ omega arith
  ]
]

pub class-value : (board : PlainBoard) (words : List ℕ) (number : ℕ) → AreRounds board words
    → number < ways board.pebbles (places board)
    → HasValue board (class_at board number) (round_of_word (word_at board words number))
class-value board words number rounds low =
    let is = (with-is (places board) board.pebbles number low).is in
    first-closed board (gap_table words) (class_at board number) (round_of_word (word_at board words number))
    rounds.table
    (class-configuration board (class_at board number) is)
    (least-is board words (class_at board number) is)

pub counted-all : (board : PlainBoard) (words : List ℕ) (wanted count : ℕ) → AreRounds board words
    → wanted ≤ 4294967295
    → IsCountBetween board words wanted 0 (ways board.pebbles (places board)) count
    → HasValueCount board (round_of_word wanted) count
counted-all board words wanted count rounds few was =
    let many : ℕ = ways board.pebbles (places board) in
    let order : ℕ → ℕ = orders (places board) board.pebbles in
    let weights : List ℕ = map order (range_with_len 0 many) in
    let test : ℕ → Bool = λ number. nat_eq (word_at board words number) wanted in
    let read : (number : ℕ) → number < many → get_or weights number 0 ≡ order number = λ number low.
    get_or-map-range_with_len order 0 many number number 0 low (omega arith) in
    let are : AreWeights (places board) board.pebbles weights = record {
      size = length-map-range_with_len order 0 many;
      each = λ number low. subst (HasWeight (places board) board.pebbles number) (sym (read number low))
          (orders-weigh (places board) board.pebbles number);
    } in
    let size : sum_below many (λ number. cond (test number) (get_or weights number 0) 0) ≡ count =
    sum-same many (λ number. cond (test number) (get_or weights number 0) 0)
    (λ number. cond (test number) (order number) 0)
    (λ number low. ap (λ n. cond (test number) n 0) (read number low))
    ∙ sym (was.is order (orders-weigh (places board) board.pebbles))
    ∙ (let none = sum-zero (λ number. cond (test number) (order number) 0) in omega (arith, none)) in
    subst (HasValueCount board (round_of_word wanted)) size
    (counted-values board weights test (round_of_word wanted) are (λ number low. (
      λ is. subst (λ w. HasValue board (class_at board number) (round_of_word w))
          (eqb-true (word_at board words number) wanted is) (class-value board words number rounds low),
      λ has. eq-eqb (word_at board words number) wanted
          (same-word (word_at board words number) wanted
          (least-few words (class_at board number) board.pebbles) few
          (same_value board (class_at board number) (round_of_word (word_at board words number)) (round_of_word wanted)
          (class-value board words number rounds low) has)),
    )))

-- ---- all values at once

-- the families up to a number, and those from there on
pub sizes-joined : (board : PlainBoard) (words : List ℕ) (rounds from middle to : ℕ) (one two sum : List ℕ)
    (first second : ℕ)
    → AreCounted board words rounds from middle one first → AreCounted board words rounds middle to two second
    → length sum ≡ length one
    → ((value : ℕ) → value < length one → get_or sum value 0 ≡ get_or one value 0 + get_or two value 0)
    → AreCounted board words rounds from to sum (first + second)
sizes-joined board words rounds from middle to one two sum first second before behind size each =
    let many : length one ≡ rounds = before.size in
    record {
      size = size ∙ many;
      each = λ value low.
          subst (IsCountBetween board words value from to) (sym (each value (omega arith)))
          (counting-joined board words value from middle to (get_or one value 0) (get_or two value 0)
          (before.each value low) (behind.each value low));
      unending = counting-joined board words 4294967295 from middle to first second before.unending behind.unending;
    }

-- the counts are small enough to be added
pub record AreFew (rounds : ℕ) (sizes : Sizes) : Type 0 where
  pub size : length sizes.finite.items ≡ rounds
  pub each : (value : ℕ) → get_or sizes.finite.items value 0 ≤ 207458501411267280
  pub unending : sizes.forever ≤ 207458501411267280

pub sizes-few : (board : PlainBoard) (words : List ℕ) (rounds from to : ℕ) (sizes : Sizes) → IsBoard board
    → AreSizesBetween board words rounds from to sizes → AreFew rounds sizes
sizes-few board words rounds from to sizes is between =
    let count : ℕ = board.pebbles - 1 in
    let low = edge-is board count from in
    let high = edge-is board count to in
    let was = between low.0 high.0 low.1 high.1 in
    let size : length sizes.finite.items ≡ rounds = was.size in
    let within = edge-within board count to high.0 is high.1 in
    let most = ways-fit board (suc count) (places board) is (let some = is.pebbles.0 in omega arith) (omega arith) in
    record {
      size = size;
      each = λ value. elim (cases_lt value rounds) [
        | inl inside ↦ (let few = (was.each value inside).few in omega (arith, few, within, most))
        | inr past ↦ (let none = get_or_past sizes.finite.items value 0 (omega (arith, size, past)) in
            omega (arith, none))
      ];
      unending = (let few = was.unending.few in omega (arith, few, within, most));
    }

pub parts-joined : (board : PlainBoard) (words : List ℕ) (rounds from middle to : ℕ) (one two sum : Sizes)
    → AreSizesBetween board words rounds from middle one → AreSizesBetween board words rounds middle to two
    → length sum.finite.items ≡ length one.finite.items
    → ((value : ℕ) → value < length one.finite.items
    → get_or sum.finite.items value 0 ≡ get_or one.finite.items value 0 + get_or two.finite.items value 0)
    → sum.forever ≡ one.forever + two.forever → AreSizesBetween board words rounds from to sum
parts-joined board words rounds from middle to one two sum before behind size each forever low high begin end =
    let edge = edge-is board (board.pebbles - 1) middle in
    subst (AreCounted board words rounds low high sum.finite.items) (sym forever)
    (sizes-joined board words rounds low edge.0 high one.finite.items two.finite.items sum.finite.items one.forever
    two.forever (before low edge.0 begin edge.1) (behind edge.0 high edge.1 end) size each)

-- the word of a class is that of some gap, or the greatest
pub word-low : (board : PlainBoard) (words class : List ℕ) (rounds : ℕ) → IsBoard board → AreGapWords board words
    → ((index : ℕ) → index < length words → get_or words index 0 < 4294967295 → get_or words index 0 < rounds)
    → IsClass (places board) board.pebbles class → least_word words class board.pebbles < 4294967295
    → least_word words class board.pebbles < rounds
word-low board words class rounds is_board size low is finite =
    elim (leasts words class board.pebbles).met [
      | inl none ↦ absurd (omega arith)
      | inr some ↦
          let long : length class ≡ board.pebbles = is.size in
          let inside : some.0 < board.pebbles = some.1 in
          let below = (gap-below board class some.0 is_board is (omega arith)).0 in
          subst (λ n. n < rounds) some.2
          (low (number_by_greatest (remove class some.0)) (omega (arith, size, below))
          (subst (λ n. n < 4294967295) (sym some.2) finite))
    ]

-- the same of a family's member
pub member-word-low : (b : PlainBoard) (words : List ℕ) (f : Family) (least word rounds : ℕ)
    → IsFamilyOf b (b.pebbles - 1) f → least < f.size → AreGapWords b words
    → ((index : ℕ) → index < length words → get_or words index 0 < 4294967295 → get_or words index 0 < rounds)
    → word ≡ least_word words (put least f.held) b.pebbles → word ≢ 4294967295 → word < rounds
member-word-low b words f least word rounds family low size above word_is differs =
    let some = family.is_board.pebbles.0 in
    let one : suc (b.pebbles - 1) ≡ b.pebbles = omega arith in
    let class : List ℕ = put least f.held in
    let class_is : IsClass (places b) b.pebbles class =
    subst (λ n. IsClass (places b) n class) one (member-class b (b.pebbles - 1) f family least low) in
    let finite : least_word words class b.pebbles < 4294967295 =
    (let few = least-few words class b.pebbles in omega (arith, few, word_is, differs)) in
    subst (λ n. n < rounds) (sym word_is) (word-low b words class rounds family.is_board size above class_is finite)

-- the word of a configuration of a finite value is the value
word-of-value : (board : PlainBoard) (words held : List ℕ) (value : ℕ) → AreRounds board words
    → IsConfiguration board held → HasValue board held (Finite value)
    → (least_word words (class_of held) board.pebbles ≡ value) × (value < 4294967295)
word-of-value board words held value are is has =
    let class_is = class-is board held is in
    let word : ℕ = least_word words (class_of held) board.pebbles in
    let found : HasValue board held (round_of_word word) =
    value-of-class board (gap_table words) held (round_of_word word) are.table is
    (least-is board words (class_of held) class_is) in
    let same : round_of_word word ≡ Finite value =
    same_value board held (round_of_word word) (Finite value) found has in
    let before = before-to word (suc value) (subst (λ v. IsClosedBefore v (suc value)) (sym same) (omega arith)) in
    let back : value < suc word =
    subst (λ v. IsClosedBefore v (suc word)) same (before-from word (suc word) (omega arith) before.1) in
    (omega (arith, before.0, back), omega (arith, before.0, before.1, back))

-- the list has the counts of all finite values that occur, and maybe zeros after them
pub record AreAllCounts (board : PlainBoard) (finite : List ℕ) (forever : ℕ) : Type 0 where
  pub each : (value : ℕ) → value < length finite → HasValueCount board (Finite value) (get_or finite value 0)
  pub inside : (value : ℕ) → Occurs board value → value < length finite
  pub unending : HasValueCount board Forever forever

pub sizes-all : (board : PlainBoard) (words : List ℕ) (rounds : ℕ) (sizes : Sizes) → IsBoard board
    → AreRounds board words → IsAboveRounds words rounds → AreSizesBetween board words rounds 0 (length words) sizes
    → AreAllCounts board sizes.finite.items sizes.forever
sizes-all board words rounds sizes is_board are high between =
    let count : ℕ = board.pebbles - 1 in
    let one : suc count ≡ board.pebbles = (let some = is_board.pebbles.0 in omega arith) in
    let many : length words ≡ ways count (places board) = are.size in
    let finite : List ℕ = sizes.finite.items in
    let forever : ℕ = sizes.forever in
    let was : AreCounted board words rounds 0 (ways board.pebbles (places board)) finite forever =
    between 0 (ways board.pebbles (places board))
    (edge-begins board count is_board (some-lists board count is_board))
    (record { more = λ more. absurd (omega (arith, many)); all = λ past. ap (λ n. ways n (places board)) (sym one) }) in
    let size : length finite ≡ rounds = was.size in
    record {
      each = λ value low.
          let less : value < rounds = omega arith in
          subst (λ v. HasValueCount board v (get_or finite value 0)) (round-finite value (omega arith))
          (counted-all board words value (get_or finite value 0) are (omega arith) (was.each value less));
      inside = λ value occurs.
          let is = word-of-value board words occurs.0 value are occurs.1 occurs.2 in
          let below = word-low board words (class_of occurs.0) rounds is_board are.size high.above
          (class-is board occurs.0 occurs.1) (omega (arith, is.0, is.1)) in
          omega (arith, below, size, is.0);
      unending = subst (λ v. HasValueCount board v forever) (round-none 4294967295 (omega arith))
          (counted-all board words 4294967295 forever are (omega arith) was.unending);
    }

-- ---- the list of counts ends with the greatest value that occurs

pub count-occurs : (board : PlainBoard) (value count : ℕ) → HasValueCount board (Finite value) count → count ≢ 0
    → Occurs board value
count-occurs board value count has some =
    let first : ℕ = get_or has.members 0 0 in
    let many : length has.members ≡ count = has.so_many in
    let is = (has.each first).0 (Contains-get_or has.members 0 0 (omega (arith, some))) in
    (configuration_at board first, configuration_at_is board first is.0, is.1)

pub occurs-counted : (board : PlainBoard) (value count : ℕ) → HasValueCount board (Finite value) count
    → Occurs board value → count ≢ 0
occurs-counted board value count has occurs none =
    (size_zero (λ rank. (rank < configurations board) × HasValue board (configuration_at board rank) (Finite value))).0
    (subst (HasValueCount board (Finite value)) none has) (rank_of board occurs.0) (
      rank_below board occurs.0 occurs.1,
      subst (λ l. HasValue board l (Finite value)) (sym (configuration_at-rank_of board occurs.0 occurs.1)) occurs.2,
    )

pub trimmed : (board : PlainBoard) (finite : List ℕ) (forever values : ℕ)
    → AreAllCounts board finite forever → values ≤ length finite → (0 < values → get_or finite (values - 1) 0 ≢ 0)
    → ((value : ℕ) → values ≤ value → value < length finite → get_or finite value 0 ≡ 0)
    → AreValueCounts board (take values finite) forever
trimmed board finite forever values counts within last zeros =
    let size : length (take values finite) ≡ values = length-take-le values finite within in
    record {
      each = λ value inside.
          let low : value < values = omega arith in
          subst (HasValueCount board (Finite value)) (sym (get_or-take values finite value 0 low))
          (counts.each value (omega arith));
      to_greatest = λ value. (
        λ inside.
            let low : value < values = omega arith in (
              values - 1,
              omega arith,
              count-occurs board (values - 1) (get_or finite (values - 1) 0) (counts.each (values - 1) (omega arith))
                  (last (omega arith)),
            ),
        λ some.
            let most : value ≤ some.0 = some.1 in
            let inside = counts.inside some.0 some.2 in
            elim (cases_lt some.0 values) [
              | inl low ↦ omega arith
              | inr past ↦ absurd (occurs-counted board some.0 (get_or finite some.0 0)
                  (counts.each some.0 inside) some.2
                  (zeros some.0 past inside))
            ],
      );
      unending = counts.unending;
    }

-- a list that was cut after its last number that is not 0
pub is-trimmed : (values : ℕ) (old new : List ℕ) → new ≡ take values old → values ≤ length old
    → (0 < values → get_or old (values - 1) 0 ≢ 0)
    → ((value : ℕ) → values ≤ value → value < length old → get_or old value 0 ≡ 0) → IsTrimmed old new
is-trimmed values old new is within last zeros =
    let size : length new ≡ values = ap length is ∙ length-take-le values old within in
    record {
      within = omega (arith, size, within);
      is = is ∙ ap (λ (n : ℕ). take n old) (sym size);
      last = subst (λ (n : ℕ). 0 < n → get_or old (n - 1) 0 ≢ 0) (sym size) last;
      zeros = subst (λ (n : ℕ). (value : ℕ) → n ≤ value → value < length old → get_or old value 0 ≡ 0) (sym size) zeros;
    }
