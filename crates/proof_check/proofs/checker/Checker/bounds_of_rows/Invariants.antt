use Rattle.proof_check.specs.Inside.GapBounds.{AreBounds}
use Rattle.proof_check.proofs.checker.Checker.bounds_of_rows.Given as goal

abbrev pub invariant-loop-row : goal.invariant-loop-row
invariant-loop-row l = AreBounds l.self.board l.self.proof.adversary l.bounds.items
