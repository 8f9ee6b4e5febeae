use Rattle.std.proofs.Common.{◌≡◌, ◌∙◌, ◌<◌, ◌+◌, ◌-◌, ℕ, List, length, get_or, set, take, inl, inr, sym, ap, subst}
use Rattle.std.proofs.Common.{arith}
use Rattle.std.proofs.lemmas.Bool.{cases_eq}
use Rattle.std.proofs.lemmas.List.{length-set, get_or-set_other, get_or-set_same}
use Rattle.board_text.specs.PlainBoard.{places}
use Rattle.classes.specs.Classes.{IsClass}
use Rattle.classes.specs.Numbers.{number_by_greatest}
use Rattle.classes.proofs.Cited.{is-below, with-is, with-number, walk-of}
use Rattle.gap_values.specs.Inside.ClassRounds.{IsRoundOf}
use Rattle.classes.specs.FamilyWalks.{IsAtFamily}
use Rattle.gap_values.proofs.ClassRounds.{rounds-table}
use Rattle.gap_values.proofs.RoundSteps.{gap_count, gap_with}
use Rattle.gap_values.proofs.class_rounds.rounds_of_classes.Goals as goal
use Rattle.gap_values.proofs.class_rounds.rounds_of_classes.Goals.{In-loop-number}

module _ (c : In-loop-number) where
  low : c.loop-number.number < gap_count c.args.board.now
  low =
      let all = c.gaps-number-end.ensures.value ∙ ap gap_count c.requires.board in
      omega (arith, all, c.loop-number-test.true)

  held : take c.loop-number.walk.count c.loop-number.walk.places ≡ gap_with c.args.board.now c.loop-number.number
  held = ap (λ n. take n c.loop-number.walk.places) c.loop-number.invariant.count ∙
      (walk-of c.args.numbers.now c.args.board.now c.loop-number.walk.count (c.args.board.now.pebbles - 1)
      c.requires.board c.loop-number.invariant.count c.loop-number.number c.loop-number.walk
      c.loop-number.invariant.walk).held_is low

pub round_of_gap-requires-clause-is_gap : goal.round_of_gap-requires-clause-is_gap
round_of_gap-requires-clause-is_gap c =
    let at = (goal.at.round_of_gap-requires-clause-is_gap c).In-loop-number in
    let b = c.args.board.now in
    subst (IsClass (places b) (b.pebbles - 1)) (sym (held at))
    (with-is (places b) (b.pebbles - 1) c.loop-number.number (low at)).is

pub loop-number-preserved : goal.loop-number-preserved
loop-number-preserved c =
    let at = (goal.at.loop-number-preserved c).In-loop-number in
    let b = c.args.board.now in
    let number : ℕ = c.loop-number.number in
    let rounds : List ℕ = c.loop-number.rounds.items in
    let word : ℕ = c.round_of_gap.result in
    let inside : number < length rounds = omega (arith, low at, c.loop-number.invariant.size) in
    record {
      walk = subst (λ n. IsAtFamily c.args.numbers.now n (number + 1) c.next_family.new.walk)
          (sym c.next_family.ensures.count) c.next_family.ensures.walk;
      count = c.next_family.ensures.count ∙ c.loop-number.invariant.count;
      size = length-set rounds number word ∙ c.loop-number.invariant.size;
      each = λ gap under. elim (cases_eq gap number) [
        | inl same ↦
            subst (λ n. IsRoundOf b c.args.words.now (gap_with b n) (get_or (set rounds number word) n 0)) (sym same)
            (subst (IsRoundOf b c.args.words.now (gap_with b number))
            (sym (get_or-set_same rounds number word 0 inside))
            (subst (λ g. IsRoundOf b c.args.words.now g word) (held at) c.round_of_gap.ensures))
        | inr differ ↦
            subst (IsRoundOf b c.args.words.now (gap_with b gap))
            (sym (get_or-set_other rounds number gap word 0 differ))
            (c.loop-number.invariant.each gap (omega (arith, under, differ)))
      ];
    }

pub returns : goal.returns
returns c =
    let b = c.args.board.now in
    rounds-table b c.args.words.now c.loop-number.rounds.items c.pebbles.ensures.is_board c.requires.words
    (λ gap is. subst (λ g. IsRoundOf b c.args.words.now g
    (get_or c.loop-number.rounds.items (number_by_greatest gap) 0))
    (with-number (places b) (b.pebbles - 1) gap is)
    (c.loop-number.invariant.each (number_by_greatest gap)
    (let low = is-below (places b) (b.pebbles - 1) gap is in
    let all = c.gaps-number-end.ensures.value ∙ ap gap_count c.requires.board in
    omega (arith, low, all, c.loop-number-test.false)))) c.loop-number.invariant.size
