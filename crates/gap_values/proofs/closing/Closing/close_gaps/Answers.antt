use Rattle.std.proofs.Common.{◌≡◌, ◌∙◌, ◌+◌, ◌-◌, ◌<◌, ◌≤◌, ℕ, min, suc, length, replicate, sym, ap, subst, arith}
use Rattle.std.proofs.Common.{rules, inl, inr, Bool, false, IsTrue, List, ◌↔◌}
use Rattle.std.proofs.lemmas.Bool.{cases_lt}
use Rattle.board_text.specs.PlainBoard.{PlainBoard, places}
use Rattle.classes.specs.Families.{least_places}
use Rattle.classes.specs.Numbers.{ways, class_with}
use Rattle.classes.proofs.Cited.{ways-fit, next-start, size-of, walk-all, walk-of, walk-within}
use Rattle.classes.specs.FamilyWalks.{IsAtFamily}
use Rattle.gap_values.specs.Inside.Closing.{IsPartClosed}
use Rattle.gap_values.specs.Inside.Sets.{ArePassed, AreSets, AreSetsOf, HasRound, IsOfRound}
use Rattle.gap_values.proofs.ClosingSteps.{passed-join, passed-none, passed-over}
use Rattle.gap_values.proofs.TableSteps.{tables-one}
use Rattle.gap_values.proofs.TellingSteps.{round-none, sets-none}
use Rattle.gap_values.proofs.closing.Closing.close_gaps.Given.{Over}
use Rattle.gap_values.proofs.closing.Closing.close_gaps.Goals as goal
use Rattle.gap_values.proofs.closing.Closing.close_gaps.Goals.{After-family_size-size, After-fill, After-index_among-to}
use Rattle.gap_values.proofs.closing.Closing.close_gaps.Goals.{then-is_among, else-is_among}

-- no gap was told yet
none-told : (g : Over) (c : After-fill g)
    → AreSetsOf c.args.self.now.board.now (IsOfRound c.args.self.now.round c.args.first c.args.part.now) c.fill.new.self
none-told g c =
    let b = c.args.self.now.board.now in
    let many : AreSets b c.args.told.now = omega (arith, c.requires.part.many) in
    sets-none b c.requires.closing.is_board (IsOfRound c.args.self.now.round c.args.first c.args.part.now)
    c.below.result c.fill.new.self
    (c.fill.ensures.after (λ y e. e) ∙ ap (λ n. replicate n c.below.result) many) c.below.ensures
    (round-none c.args.self.now.round c.args.first c.args.part.now c.requires.part.fresh)

-- all gaps of the part are passed, and the sets are one table
all-closed : (g : Over) (c : After-fill g) (new : List ℕ) (told : List (List ℕ)) (answer : Bool)
    → ArePassed c.args.self.now.board.now c.args.self.now.sets.now c.args.self.now.round c.args.first 0
    (length c.args.part.now) c.args.part.now new
    → AreSetsOf c.args.self.now.board.now (IsOfRound c.args.self.now.round c.args.first new) told
    → IsTrue answer ↔ HasRound c.args.self.now.round new
    → IsPartClosed c.args.self.now.board.now c.args.self.now.sets.now c.args.self.now.round c.args.first 1
    c.args.part.now new told answer
all-closed g c new told answer passed are some = record {
  passed = passed;
  tell = tables-one c.args.self.now.board.now (IsOfRound c.args.self.now.round c.args.first new) told are;
  some = some;
}

pub returns-then-is_empty : goal.returns-then-is_empty
returns-then-is_empty g c =
    let none : length c.args.part.now ≡ 0 = search rules in
    all-closed g (goal.at.returns-then-is_empty g c).After-fill c.args.part.now c.fill.new.self false
    (subst (λ n. ArePassed c.args.self.now.board.now c.args.self.now.sets.now c.args.self.now.round c.args.first 0 n
    c.args.part.now c.args.part.now) (sym none)
    (passed-none c.args.self.now.board.now c.args.self.now.sets.now c.args.self.now.round
    c.requires.closing.can.is_round c.args.first 0 c.args.part.now))
    (none-told g (goal.at.returns-then-is_empty g c).After-fill) (search rules)

pub loop-walk-init : goal.loop-walk-init
loop-walk-init g c =
    let b = c.args.self.now.board.now in
    let walk = c.family_of-number.result.1 in
    let found = c.family_of-number.ensures in
    let none : min (walk.start - c.args.first) (length c.args.part.now) ≡ 0 = omega (arith, found.from) in
    record {
      walk = subst (λ n. IsAtFamily c.args.self.now.numbers.now n c.family_of-number.result.0 walk)
          (sym found.walk.count_is) found.walk;
      count = found.walk.count_is ∙ ap (λ n. n - 2) c.pebbles-fewer.ensures.value;
      passed =
          subst (λ n. ArePassed b c.args.self.now.sets.now c.args.self.now.round c.args.first 0 n c.args.part.now
          c.args.part.now)
          (sym none) (passed-none b c.args.self.now.sets.now c.args.self.now.round c.requires.closing.can.is_round
          c.args.first 0 c.args.part.now);
      told = none-told g (goal.at.loop-walk-init g c).After-fill;
    }

module _ (g : Over) (c : After-family_size-size g) where
  abbrev b : PlainBoard
  b = c.args.self.now.board.now

  one : suc (b.pebbles - 2) ≡ b.pebbles - 1
  one = let some = c.requires.closing.can.some in omega arith

  at : IsAtFamily b (b.pebbles - 2) c.loop-walk.number c.loop-walk.walk
  at = walk-of c.args.self.now.numbers.now b c.loop-walk.walk.count (b.pebbles - 2) c.requires.closing.can.same_board
      c.loop-walk.invariant.count c.loop-walk.number c.loop-walk.walk c.loop-walk.invariant.walk

  -- the walk isn't behind all families, since its gaps begin before the part's end
  low : c.loop-walk.number < ways (b.pebbles - 2) (places b)
  low = elim (cases_lt c.loop-walk.number (ways (b.pebbles - 2) (places b))) [
    | inl before ↦ before
    | inr past ↦
        let end = walk-all b (b.pebbles - 2) c.loop-walk.number (b.pebbles - 1) c.loop-walk.walk past one at in
        absurd (omega (arith, end, c.loop-walk-test.true, c.loop-walk.auto.part, c.requires.part.gaps))
  ]

  size_is : c.family_size-size.result
      ≡ least_places (places b) (class_with (places b) (b.pebbles - 2) c.loop-walk.number)
  size_is = size-of c.args.self.now.numbers.now b c.loop-walk.walk.count (b.pebbles - 2)
      c.requires.closing.can.same_board c.loop-walk.invariant.count c.loop-walk.number
      c.family_size-size.result c.family_size-size.ensures

  within : c.loop-walk.walk.start + c.family_size-size.result ≤ ways (b.pebbles - 1) (places b)
  within = subst (λ n. c.loop-walk.walk.start + c.family_size-size.result ≤ ways n (places b)) one
      (walk-within b (b.pebbles - 2) c.loop-walk.number c.family_size-size.result c.loop-walk.walk low at size_is)

pub overflow_add-first : goal.overflow_add-first
overflow_add-first g c =
    let b = c.args.self.now.board.now in
    let most = ways-fit b (b.pebbles - 1) (places b) c.requires.closing.is_board (omega arith) (omega arith) in
    let few : c.args.first + length c.loop-walk.part ≤ 288136807515649 =
    omega (arith, c.requires.part.gaps, c.loop-walk.auto.part, most) in
    search (rules, few)

pub overflow_add-start : goal.overflow_add-start
overflow_add-start g c =
    let here = (goal.at.overflow_add-start g c).After-family_size-size in
    let b = c.args.self.now.board.now in
    let most = ways-fit b (b.pebbles - 1) (places b) c.requires.closing.is_board (omega arith) (omega arith) in
    let few : c.loop-walk.walk.start + c.family_size-size.result ≤ 288136807515649 =
    omega (arith, within g here, most) in
    search (rules, few)

-- the indexes of the family's gaps in the part
module _ (g : Over) (c : After-index_among-to g) where
  abbrev count : ℕ
  count = length c.args.part.now

  from_is : c.index_among-from.result ≡ min (c.loop-walk.walk.start - c.args.first) count
  from_is = c.index_among-from.ensures
      ∙ ap (min (c.loop-walk.walk.start - c.args.first)) c.loop-walk.auto.part

  to_is : c.index_among-to.result
      ≡ min (c.loop-walk.walk.start + c.family_size-size.result - c.args.first) count
  to_is = c.index_among-to.ensures
      ∙ ap (min (c.loop-walk.walk.start + c.family_size-size.result - c.args.first)) c.loop-walk.auto.part

  order : c.index_among-from.result ≤ c.index_among-to.result
  order = omega (arith, from_is, to_is)

pub loop-walk-preserved : goal.loop-walk-preserved
loop-walk-preserved g c =
    let here = (goal.at.loop-walk-preserved g c).After-family_size-size in
    let ends = (goal.at.loop-walk-preserved g c).After-index_among-to in
    let b = c.args.self.now.board.now in
    let sets = c.args.self.now.sets.now in
    let round : ℕ = c.args.self.now.round in
    let first : ℕ = c.args.first in
    let from : ℕ = c.index_among-from.result in
    let to : ℕ = c.index_among-to.result in
    let number : ℕ = c.loop-walk.number in
    let walk = c.loop-walk.walk in
    let new = c.next_family.new.walk in
    let next = walk-of c.args.self.now.numbers.now b walk.count
    (b.pebbles - 2) c.requires.closing.can.same_board c.loop-walk.invariant.count
    (number + 1) new c.next_family.ensures.walk in
    let start : new.start ≡ walk.start + c.family_size-size.result =
    next-start b (b.pebbles - 2) number c.family_size-size.result walk (low g here) (at g here) (size_is g here) new
    next in
    let end : to ≡ min (new.start - first) (length c.args.part.now) =
    to_is g ends ∙ ap (λ n. min (n - first) (length c.args.part.now)) (sym start) in
    let was : ArePassed b sets round first 0 from c.args.part.now c.loop-walk.part =
    subst (λ n. ArePassed b sets round first 0 n c.args.part.now c.loop-walk.part) (sym (from_is g ends))
    c.loop-walk.invariant.passed in
    let walk_is : IsAtFamily c.args.self.now.numbers.now new.count (number + 1) new =
    subst (λ n. IsAtFamily c.args.self.now.numbers.now n (number + 1) new) (sym c.next_family.ensures.count)
    c.next_family.ensures.walk in
    let count_is : new.count ≡ b.pebbles - 2 = c.next_family.ensures.count ∙ c.loop-walk.invariant.count in
    elim c.if-is_among.branch [
      | then-is_among w ↦ rw (w.part-is, w.told-is) record {
        walk = walk_is;
        count = count_is;
        passed = subst (λ n. ArePassed b sets round first 0 n c.args.part.now w.close_family.new.part) end
            (passed-join b sets round c.requires.closing.can.is_round first 0 from to c.args.part.now c.loop-walk.part
            w.close_family.new.part (omega arith) (order g ends) was w.close_family.ensures.passed);
        told = w.close_family.ensures.told;
      }
      | else-is_among w ↦ rw (w.part-is, w.told-is) record {
        walk = walk_is;
        count = count_is;
        passed = subst (λ n. ArePassed b sets round first 0 n c.args.part.now c.loop-walk.part) end
            (passed-join b sets round c.requires.closing.can.is_round first 0 from to c.args.part.now c.loop-walk.part
            c.loop-walk.part (omega arith) (order g ends) was
            (passed-over b sets round c.requires.closing.can.is_round first from to c.loop-walk.part
            (λ index least under opened.
            let yes = c.is_among.ensures.1 (index, least, under, opened) in
            let no_one = w.if-is_among.false in
            let bad : ⊥ = cc in bad)));
        told = c.loop-walk.invariant.told;
      }
    ]

pub returns : goal.returns
returns g c =
    let all : min (c.loop-walk.walk.start - c.args.first) (length c.args.part.now) ≡ length c.args.part.now =
    omega (arith, c.loop-walk-test.false, c.loop-walk.auto.part) in
    all-closed g (goal.at.returns g c).After-fill c.loop-walk.part c.loop-walk.told c.is_among-2.result
    (subst (λ n. ArePassed c.args.self.now.board.now c.args.self.now.sets.now c.args.self.now.round c.args.first 0 n
    c.args.part.now c.loop-walk.part) all c.loop-walk.invariant.passed)
    c.loop-walk.invariant.told (search rules)
