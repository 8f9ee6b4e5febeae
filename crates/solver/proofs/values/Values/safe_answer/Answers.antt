use Rattle.board_text.proofs.Cited.{label_is_place}
use Rattle.graphs.proofs.Cited.{true_not_false}
use Rattle.solver.proofs.SafeWalks.{next-answer, safe-begins, safe-first, safe-next, safe-none}
use Rattle.solver.proofs.values.Values.safe_answer.Goals as goal

pub loop-label-init : goal.loop-label-init
loop-label-init c =
    safe-begins c.args.self.now c.args.gap c.answers.result c.answers.ensures.answers c.walk-labels.result
    c.walk-labels.ensures

pub lasts_forever-requires-clause-place : goal.lasts_forever-requires-clause-place
lasts_forever-requires-clause-place c =
    let board = c.args.self.now in
    let next = next-answer board c.answers.ensures.is_board c.args.gap c.loop-label.labels c.loop-label.invariant
    c.take_next.new.self c.in-Some.label c.in-Some.ensures in
    label_is_place board c.in-Some.label next.0.1.is_label

pub returns-then-lasts_forever : goal.returns-then-lasts_forever
returns-then-lasts_forever c =
    safe-first c.args.self.now c.answers.ensures.is_board c.args.gap c.loop-label.labels c.loop-label.invariant
    c.take_next.new.self c.in-Some.label c.in-Some.ensures (c.lasts_forever.ensures.0 c.if-lasts_forever.true)

pub loop-label-preserved : goal.loop-label-preserved
loop-label-preserved c =
    safe-next c.args.self.now c.answers.ensures.is_board c.args.gap c.loop-label.labels c.loop-label.invariant
    c.take_next.new.self c.in-Some.label c.in-Some.ensures
    (λ lasts. true_not_false _ (c.lasts_forever.ensures.1 lasts) c.if-lasts_forever.false)

pub returns : goal.returns
returns c =
    safe-none c.args.self.now c.answers.ensures.is_board c.args.gap c.loop-label.labels c.loop-label.invariant
    c.in_default.ensures
