use Rattle.std.proofs.Common.{◌≡◌, ◌∙◌, ◌+◌, ◌-◌, ◌<◌, ℕ, List, length, get_or, replicate, drop, suc}
use Rattle.std.proofs.Common.{sym, ap, subst, arith, refl}
use Rattle.std.proofs.lemmas.List.{take_at}
use Rattle.board_text.specs.PlainBoard.{PlainBoard, places}
use Rattle.classes.specs.Families.{least_places}
use Rattle.classes.specs.Numbers.{ways, class_with}
use Rattle.classes.specs.FamilyWalks.{IsAtFamily}
use Rattle.classes.proofs.Cited.{family-of, family-size, next-start, walk-all, walk-of, walk-start, walk-zero}
use Rattle.gap_values.specs.GapTables.{IsClosedBefore}
use Rattle.gap_values.specs.Inside.Sets.{AreSetsOf}
use Rattle.gap_values.specs.Inside.Words.{IsClosedUpTo}
use Rattle.gap_values.specs.RoundWords.{round_of_word}
use Rattle.gap_values.proofs.TellingSteps.{sets-none, sets-same}
use Rattle.gap_values.proofs.telling.sets_below.Given.{Over}
use Rattle.gap_values.proofs.telling.sets_below.Goals as goal
use Rattle.gap_values.proofs.telling.sets_below.Goals.{After-families-walk, In-loop-number}

lists-are : (g : Over) (c : After-families-walk g) → c.ways-lists.result
    ≡ ways (c.args.board.now.pebbles - 2) (places c.args.board.now)
lists-are g c =
    c.ways-lists.ensures.value ∙ ap (λ n. ways (n - 2) c.places.result) c.pebbles-fewer.ensures.value
    ∙ ap (ways (c.args.board.now.pebbles - 2)) c.places.ensures.value

pub loop-number-init : goal.loop-number-init
loop-number-init g c =
    let b = c.args.board.now in
    let walk = c.families-walk.result in
    let count : walk.count ≡ b.pebbles - 2 =
    c.families-walk.ensures.count_is ∙ ap (λ n. n - 2) c.pebbles-fewer.ensures.value in
    let own : IsAtFamily c.args.numbers.now walk.count 0 walk =
    subst (λ n. IsAtFamily c.args.numbers.now n 0 walk)
    (sym c.families-walk.ensures.count_is) c.families-walk.ensures in
    let start : walk.start ≡ 0 =
    walk-zero b (b.pebbles - 2) walk
    (walk-of c.args.numbers.now b walk.count (b.pebbles - 2) c.requires.board count 0 walk own) in
    record {
      walk = own;
      count = count;
      told = sets-none b c.places.ensures.is_board (IsClosedUpTo c.args.words.now c.args.bound walk.start)
          c.below.result c.in_ok-sets.sets.items
          (c.in_ok-sets.ensures.items_if_clones_equal (λ y e. e)
          ∙ ap (λ n. replicate n c.below.result) (lists-are g (goal.at.loop-number-init g c).After-families-walk))
          c.below.ensures (λ gap before. let under = before.0 in omega (arith, start));
    }

module _ (g : Over) (c : In-loop-number g) where
  abbrev b : PlainBoard
  b = c.args.board.now

  low : c.loop-number.number < ways (b.pebbles - 2) (places b)
  low =
      let all = c.ways-lists.ensures.value ∙ ap (λ n. ways (n - 2) c.places.result) c.pebbles-fewer.ensures.value
      ∙ ap (ways (b.pebbles - 2)) c.places.ensures.value in
      omega (arith, all, c.loop-number-test.true)

  at : IsAtFamily b (b.pebbles - 2) c.loop-number.number c.loop-number.walk
  at = walk-of c.args.numbers.now b c.loop-number.walk.count (b.pebbles - 2) c.requires.board
      c.loop-number.invariant.count c.loop-number.number c.loop-number.walk c.loop-number.invariant.walk

pub tell_family-requires : goal.tell_family-requires
tell_family-requires g c =
    let here = (goal.at.tell_family-requires g c).In-loop-number in
    let b = c.args.board.now in
    let walk = c.loop-number.walk in
    let own = family-of c.args.numbers.now b walk.count (b.pebbles - 2) c.requires.board
    c.loop-number.invariant.count c.family-family.result c.family-family.ensures.family in
    let size : ℕ = least_places (places b) (class_with (places b) (b.pebbles - 2) c.loop-number.number) in
    let start : c.family-family.result.start ≡ walk.start =
    walk-start b (b.pebbles - 2) c.loop-number.number size walk (low g here) (at g here) refl c.family-family.result own
    c.family-family.ensures.number in (
      omega arith,
      (
        c.requires.fits,
        (
          c.requires.some,
          (
            own,
            (
              c.requires.words,
              (
                c.requires.bound,
                subst (AreSetsOf b (IsClosedUpTo c.args.words.now c.args.bound c.family-family.result.start))
                    (sym c.deref_mut.ensures.value)
                    (subst (λ n. AreSetsOf b (IsClosedUpTo c.args.words.now c.args.bound n) c.loop-number.sets.items)
                    (sym start)
                    c.loop-number.invariant.told),
              ),
            ),
          ),
        ),
      ),
    )

pub loop-number-preserved : goal.loop-number-preserved
loop-number-preserved g c =
    let here = (goal.at.loop-number-preserved g c).In-loop-number in
    let b = c.args.board.now in
    let count : ℕ = b.pebbles - 2 in
    let number : ℕ = c.loop-number.number in
    let walk = c.loop-number.walk in
    let new = c.next_family.new.walk in
    let family = c.family-family.result in
    let own = family-of c.args.numbers.now b walk.count count c.requires.board c.loop-number.invariant.count family
    c.family-family.ensures.family in
    let size : ℕ = least_places (places b) (class_with (places b) count number) in
    let same_size : family.size ≡ size =
    family-size b count number size family own c.family-family.ensures.number refl in
    let same_start : family.start ≡ walk.start =
    walk-start b count number size walk (low g here) (at g here) refl family own c.family-family.ensures.number in
    let start : new.start ≡ walk.start + size =
    next-start b count number size walk (low g here) (at g here) refl new
    (walk-of c.args.numbers.now b walk.count count c.requires.board c.loop-number.invariant.count (number + 1) new
    c.next_family.ensures.walk) in
    let end : family.start + family.size ≡ new.start = omega (arith, same_size, same_start, start) in
    record {
      walk = subst (λ n. IsAtFamily c.args.numbers.now n (number + 1) new) (sym c.next_family.ensures.count)
          c.next_family.ensures.walk;
      count = c.next_family.ensures.count ∙ c.loop-number.invariant.count;
      told = subst (λ (l : List (List ℕ)). AreSetsOf b (IsClosedUpTo c.args.words.now c.args.bound new.start) l)
          (sym (take_at c.tell_family.new.sets (drop (length c.tell_family.new.sets) c.loop-number.sets.items)
          c.loop-number.sets.len (c.tell_family.auto.sets ∙ c.deref_mut.ensures.len)))
          (subst (λ n. AreSetsOf b (IsClosedUpTo c.args.words.now c.args.bound n) c.tell_family.new.sets) end
          c.tell_family.ensures);
    }

pub returns : goal.returns
returns g c =
    let b = c.args.board.now in
    let some = c.requires.some in
    let one : suc (b.pebbles - 2) ≡ b.pebbles - 1 = omega arith in
    let end = walk-all b (b.pebbles - 2) c.loop-number.number (b.pebbles - 1) c.loop-number.walk
    (omega (arith, lists-are g (goal.at.returns g c).After-families-walk, c.loop-number-test.false)) one
    (walk-of c.args.numbers.now b c.loop-number.walk.count (b.pebbles - 2) c.requires.board
    c.loop-number.invariant.count c.loop-number.number c.loop-number.walk c.loop-number.invariant.walk) in
    sets-same b c.places.ensures.is_board c.requires.some
    (IsClosedUpTo c.args.words.now c.args.bound c.loop-number.walk.start)
    (λ gap. IsClosedBefore (round_of_word (get_or c.args.words.now gap 0)) c.args.bound) c.loop-number.sets.items
    (λ gap low. (λ before. before.1, λ closed. (omega (arith, low, end), closed))) c.loop-number.invariant.told
