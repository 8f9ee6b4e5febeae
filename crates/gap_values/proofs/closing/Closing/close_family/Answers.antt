use Rattle.std.proofs.Common.{◌≡◌, ◌≢◌, ◌∙◌, ◌+◌, ◌-◌, ◌<◌, ◌≤◌, ◌⊎◌, ◌↔◌, ℕ, List, true, [], length, get_or, set, suc}
use Rattle.std.proofs.Common.{sym, ap, subst, arith, rules}
use Rattle.std.proofs.lemmas.List.{get_or_read}
use Rattle.board_text.specs.Domination.{has_bit}
use Rattle.board_text.specs.PlainBoard.{places}
use Rattle.board_text.specs.declared.board.TheConstants.{MAX_LABELS}
use Rattle.positions.specs.Gaps.{AnswersGap}
use Rattle.board_text.proofs.Cited.{few_places}
use Rattle.classes.specs.Classes.{IsClass, put}
use Rattle.classes.specs.Numbers.{class_with, number_by_greatest}
use Rattle.gap_values.specs.Inside.Sets.{ArePassed, AreSetsOf, IsGapToldTo, IsOfRound, IsShut}
use Rattle.gap_values.proofs.ClosingSteps.{common-is, passed-kept, passed-shut}
use Rattle.gap_values.proofs.TellingSteps.{round-more, sets-gap, sets-same}
use Rattle.classes.proofs.Cited.{member-class, member-few, member-number, member-with, place-low}
use Rattle.gap_values.proofs.closing.Closing.close_family.Given.{Over}
use Rattle.gap_values.proofs.closing.Closing.close_family.Goals as goal
use Rattle.gap_values.proofs.closing.Closing.close_family.Goals.{In-loop-index, then-part-index+then-is_shut}
use Rattle.gap_values.proofs.closing.Closing.close_family.Goals.{else-part-index}
use Rattle.gap_values.proofs.closing.Closing.close_family.Goals.{else-part-index-via-then-part-index+else-is_shut}
use Rattle.gap_values.proofs.closing.Closing.close_family.Goals.{else-part-index-via-else-part-index}

module _ (g : Over) (c : In-loop-index g) where
  abbrev least : ℕ
  least = c.args.first + c.loop-index.index - c.args.family.now.start

  one : suc (c.args.self.now.board.now.pebbles - 2) ≡ c.args.self.now.board.now.pebbles - 1
  one = let some = c.requires.closing.can.some in omega arith

  at-least : c.args.family.now.start + least ≡ c.args.first + c.loop-index.index
  at-least = omega (arith, c.requires.from, c.loop-index.auto.index)

  low : least < c.args.family.now.size
  low = omega (arith, at-least, c.requires.to, c.loop-index-test.true)

  gap : class_with (places c.args.self.now.board.now) (c.args.self.now.board.now.pebbles - 1)
      (c.args.first + c.loop-index.index)
      ≡ put least c.args.family.now.held
  gap =
      ap (class_with (places c.args.self.now.board.now) (c.args.self.now.board.now.pebbles - 1)) (sym at-least)
      ∙ ap (λ n. class_with (places c.args.self.now.board.now) n (c.args.family.now.start + least)) (sym one)
      ∙ member-with c.args.self.now.board.now (c.args.self.now.board.now.pebbles - 2) c.args.family.now
      c.requires.family least low

pub overflow_cast-least : goal.overflow_cast-least
overflow_cast-least g c =
    let at = (goal.at.overflow_cast-least g c).In-loop-index in
    let b = c.args.self.now.board.now in
    let place = place-low b (b.pebbles - 2) c.args.family.now c.requires.family (least g at) (low g at) in
    omega (arith, place, few_places b c.requires.family.is_board)

pub overflow_add-least : goal.overflow_add-least
overflow_add-least g c =
    let at = (goal.at.overflow_add-least g c).In-loop-index in
    let most = member-few c.args.self.now.board.now (c.args.self.now.board.now.pebbles - 2) c.args.family.now
    c.requires.family
    (least g at) (low g at) (omega (arith, one g at)) in
    let few : c.args.first + c.loop-index.index ≤ 288136807515649 = omega (arith, most, at-least g at) in
    search (rules, few)

pub is_shut-requires : goal.is_shut-requires
is_shut-requires g c =
    let at = (goal.at.is_shut-requires g c).In-loop-index in
    let b = c.args.self.now.board.now in
    let sets = c.args.self.now.sets.now in
    let f = c.args.family.now in
    let inside : f.number < length sets = omega (arith, c.requires.family.inside, c.requires.closing.can.each_list) in
    let common = common-is b c.requires.family.is_board sets f.held f.number c.answer_set.result
    (get_or sets f.number c.index-self-family.result) c.without-common.result
    (subst (λ (l : List ℕ). (x : ℕ) → x < MAX_LABELS → (has_bit c.answer_set.result x ≡ true) ↔ AnswersGap b l x)
    c.as_slice.ensures.value c.answer_set.ensures) c.without-common.ensures
    (sym c.index-self-family.is
    ∙ get_or_read sets f.number c.index-self-family.result inside c.index-self-family.is []) in (
      omega arith,
      (
        c.requires.closing.can.narrow,
        (
          c.requires.closing.can.some,
          (
            c.requires.family,
            (
              common,
              (
                low g at,
                c.requires.closing.can.each_list,
              ),
            ),
          ),
        ),
      ),
    )

-- an open gap that is shut is of the round then
module _ (g : Over) (c : In-loop-index g) where
  abbrev words : List ℕ
  words = set c.loop-index.part c.loop-index.index c.args.self.now.round

  more-passed : get_or c.loop-index.part c.loop-index.index 0 ≡ 4294967295
      → IsShut c.args.self.now.board.now c.args.self.now.sets.now (put (least g c) c.args.family.now.held)
      → ArePassed c.args.self.now.board.now c.args.self.now.sets.now c.args.self.now.round c.args.first c.args.from
      (c.loop-index.index + 1) c.args.part.now words
  more-passed opened shut =
      passed-shut c.args.self.now.board.now c.args.self.now.sets.now c.args.self.now.round
      c.requires.closing.can.is_round
      c.args.first c.args.from c.loop-index.index c.args.part.now c.loop-index.part c.loop-index.auto.index
      (omega (arith, c.loop-index.auto.part, c.loop-index-test.true, c.requires.part)) opened
      (subst (IsShut c.args.self.now.board.now c.args.self.now.sets.now) (sym (gap g c)) shut)
      c.loop-index.invariant.passed

  more-told : (new : List (List ℕ)) → get_or c.loop-index.part c.loop-index.index 0 ≡ 4294967295
      → IsGapToldTo c.args.self.now.board.now (put (least g c) c.args.family.now.held)
      (c.args.self.now.board.now.pebbles - 1) c.loop-index.told new
      → AreSetsOf c.args.self.now.board.now (IsOfRound c.args.self.now.round c.args.first words) new
  more-told new opened told =
      let b = c.args.self.now.board.now in
      let round : ℕ = c.args.self.now.round in
      let first : ℕ = c.args.first in
      let member = put (least g c) c.args.family.now.held in
      let member_is : IsClass (places b) (b.pebbles - 1) member =
      subst (λ n. IsClass (places b) n member) (one g c)
      (member-class b (b.pebbles - 2) c.args.family.now c.requires.family (least g c) (low g c)) in
      let number : number_by_greatest member ≡ first + c.loop-index.index =
      member-number b (b.pebbles - 2) c.args.family.now c.requires.family (least g c) (low g c) ∙ at-least g c in
      let other : get_or c.loop-index.part c.loop-index.index 0 ≢ round =
      λ same. (let round_low = c.requires.closing.can.is_round in omega (arith, opened, same)) in
      sets-same b c.requires.family.is_board c.requires.closing.can.some
      (λ n. IsOfRound round first c.loop-index.part n ⊎ (n ≡ number_by_greatest member))
      (IsOfRound round first words) new
      (λ n n_low. subst (λ k. (IsOfRound round first c.loop-index.part n ⊎ (n ≡ k)) ↔ IsOfRound round first words n)
      (sym number)
      (round-more round first c.loop-index.index c.loop-index.part
      (omega (arith, c.loop-index.auto.part, c.loop-index-test.true, c.requires.part)) other n))
      (sets-gap b c.requires.family.is_board c.requires.closing.can.some (IsOfRound round first c.loop-index.part)
      (b.pebbles - 1) member c.loop-index.told new member_is (sym member_is.size) c.loop-index.invariant.told told)

pub tell_gap-requires : goal.tell_gap-requires
tell_gap-requires g c =
    let at = (goal.at.tell_gap-requires g c).In-loop-index in (
      omega arith,
      (
        c.requires.closing.can.fits,
        (
          c.requires.closing.can.some,
          (
            c.requires.family,
            (
              low g at,
              c.loop-index.invariant.told.many,
            ),
          ),
        ),
      ),
    )

pub loop-index-preserved : goal.loop-index-preserved
loop-index-preserved g c =
    let at = (goal.at.loop-index-preserved g c).In-loop-index in
    let b = c.args.self.now.board.now in
    let sets = c.args.self.now.sets.now in
    elim c.if-part-index.branch [
      | then-part-index+then-is_shut w ↦ rw (w.part-is, w.told-is) record {
        passed = more-passed g at w.if-part-index.true (w.is_shut.ensures.0 w.if-is_shut.true);
        told = more-told g at w.tell_gap.new.sets w.if-part-index.true w.tell_gap.ensures;
      }
      | else-part-index w ↦ rw (w.part-is, w.told-is) record {
        passed = passed-kept b sets c.args.self.now.round c.requires.closing.can.is_round c.args.first c.args.from
            c.loop-index.index c.args.part.now c.loop-index.part
            (elim w.else-part-index.branch [
              | else-part-index-via-then-part-index+else-is_shut v ↦ λ opened shut.
                  let yes = v.is_shut.ensures.1 (subst (IsShut b sets) (gap g at) shut) in
                  let no_shut = v.if-is_shut.false in
                  let bad : ⊥ = cc in bad
              | else-part-index-via-else-part-index v ↦ λ opened shut. v.if-part-index.false opened
            ])
            c.loop-index.invariant.passed;
        told = c.loop-index.invariant.told;
      }
    ]

pub returns-clause-passed : goal.returns-clause-passed
returns-clause-passed g c =
    let all : c.loop-index.index ≡ c.args.to =
    omega (arith, c.loop-index.auto.index-end, c.loop-index-test.false, c.requires.order) in
    subst (λ n. ArePassed c.args.self.now.board.now c.args.self.now.sets.now c.args.self.now.round c.args.first
    c.args.from n c.args.part.now c.loop-index.part) all c.loop-index.invariant.passed

pub returns-clause-told : goal.returns-clause-told
returns-clause-told g c = c.loop-index.invariant.told
