use Rattle.std.proofs.Common.{◌≤◌, ◌∙◌, subst}
use Rattle.board_text.specs.PlainBoard.{PlainBoard, IsBoard}
use Rattle.positions.specs.Ranks.{configurations}
use Rattle.positions.specs.declared.space.TheConstants.{MAX_CONFIGURATIONS}
use Rattle.solver.proofs.values.Values.space.Goals as goal

pub returns-clause-value : goal.returns-clause-value
returns-clause-value c = c.space.ensures.value ∙ c.self.view_is

pub returns-clause-is_board : goal.returns-clause-is_board
returns-clause-is_board c = subst IsBoard c.self.view_is c.self.invariant.is_board

pub returns-clause-few : goal.returns-clause-few
returns-clause-few c =
    subst (λ (b : PlainBoard). configurations b ≤ MAX_CONFIGURATIONS) c.self.view_is c.space.ensures.few
