use Rattle.std.proofs.Common.{◌-◌}
use Rattle.board_text.specs.declared.board.TheConstants.{MAX_LABELS}
use Rattle.positions.specs.Game.{Legal}
use Rattle.positions.specs.Ranks.{configuration_at}
use Rattle.proof_check.proofs.AdversarySteps.{AreMetBefore}
use Rattle.proof_check.proofs.GapBounds.{IsServed}
use Rattle.proof_check.proofs.checker.Checker.bound.Given as goal

abbrev pub invariant-loop-label : goal.invariant-loop-label
invariant-loop-label l =
    let configuration = configuration_at l.self.board l.row.at in
    AreMetBefore (Legal l.self.board configuration l.row.ask)
    (IsServed l.self.board l.self.proof.adversary configuration l.row.ask l.bound) l.answers

abbrev pub decreases-loop-label : goal.decreases-loop-label
decreases-loop-label l = MAX_LABELS - l.answers.from
