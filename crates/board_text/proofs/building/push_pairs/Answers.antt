use Rattle.std.proofs.Common.{◌^◌, ◌++◌, ◌∷◌, [], ℕ, List, get_or, ap, sym, ◌∙◌, arith, inl, inr}
use Rattle.std.proofs.lemmas.List.{take_more}
use Rattle.board_text.specs.PlainBoard.{AreLabels}
use Rattle.board_text.specs.declared.fault.BoardKind.TheVariants.{Beats}
use Rattle.board_text.proofs.PairLemmas.{pairs_push}
use Rattle.board_text.proofs.PairFaults.{misfit_at}
use Rattle.board_text.proofs.building.push_pairs.Goals as goal

pub returns-then-x-labels-clause-fault : goal.returns-then-x-labels-clause-fault
returns-then-x-labels-clause-fault c =
    let so_far = c.loop-x.invariant in
    let p = get_or c.args.pairs.now c.loop-x.x-index (0, 0) in
    let small : AreLabels (2 ^ 16) p = (omega arith, omega arith) in
    misfit_at c.args.beats.now.labels c.loop-x.beats.labels c.args.pairs.now c.loop-x.beats.pairs c.loop-x.x-index
    c.loop-x.line Beats c.at.result so_far.labels c.loop-x-test.true so_far.pairs so_far.are c.at.ensures
    so_far.line (
      small,
      λ are. elim c.then-x-labels.either [
        | inl w ↦ omega (arith, w, are.0, so_far.labels, c.labels-labels.ensures.value)
        | inr w ↦ omega (arith, w, are.1, so_far.labels, c.labels-labels.ensures.value)
      ],
    )

pub returns-in-Some-clause-fault : goal.returns-in-Some-clause-fault
returns-in-Some-clause-fault c =
    let so_far = c.loop-x.invariant in
    misfit_at c.args.beats.now.labels c.loop-x.beats.labels c.args.pairs.now c.loop-x.beats.pairs c.loop-x.x-index
    c.loop-x.line c.in-Some.kind c.at-in-Some.result so_far.labels c.loop-x-test.true so_far.pairs so_far.are
    c.at-in-Some.ensures so_far.line c.in-Some.ensures

pub loop-x-preserved : goal.loop-x-preserved
loop-x-preserved c =
    let so_far = c.loop-x.invariant in
    let all = c.args.pairs.now in
    let p = get_or all c.loop-x.x-index (0, 0) in
    record {
      labels = c.push.ensures.labels ∙ so_far.labels;
      pairs = c.push.ensures.pairs ∙ ap (λ (ps : List (ℕ × ℕ)). ps ++ p ∷ []) so_far.pairs
          ∙ sym (take_more all c.loop-x.x-index (0, 0) c.loop-x-test.true);
      are = rw (c.push.ensures.labels, c.push.ensures.pairs)
          (pairs_push c.loop-x.beats.labels c.loop-x.beats.pairs p so_far.are c.in_default.ensures);
      line = omega (arith, so_far.line);
      few = c.push.ensures.few;
    }
