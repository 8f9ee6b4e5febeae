use Rattle.std.proofs.Common.{◌<◌, ◌↔◌, ℕ, subst}
use Rattle.board_text.specs.PlainBoard.{PlainBoard, IsBoard}
use Rattle.graphs.specs.Numbered.{graph_by}
use Rattle.positions.specs.Gaps.{gaps, IsAnswer}
use Rattle.solver.specs.LabelSets.{IsInSet}
use Rattle.solver.proofs.RankValues.{answer-set}
use Rattle.solver.proofs.values.Values.answers.Goals as goal

pub answers-requires : goal.answers-requires
unfolding graph_by
answers-requires c = rw (← c.self.view_is) at c.requires

pub returns-clause-answers : goal.returns-clause-answers
returns-clause-answers c =
    let low : c.args.gap < gaps c.self.inside.numbers = rw (← c.self.view_is) at c.requires in
    subst (λ (b : PlainBoard). (label : ℕ) → IsInSet c.answers.result label ↔ IsAnswer b c.args.gap label)
    c.self.view_is
    (answer-set c.self.inside.numbers c.args.gap c.answers.result c.self.invariant.is_board low
    c.answers.ensures)

pub returns-clause-is_board : goal.returns-clause-is_board
returns-clause-is_board c = subst IsBoard c.self.view_is c.self.invariant.is_board
