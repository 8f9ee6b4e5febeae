use Rattle.std.proofs.Common.{ℕ, ◌<◌}
use Rattle.proof_text.specs.Proof.{answer_row}
use Rattle.proof_text.specs.Positions.{configuration_positions}
use Rattle.proof_text.specs.Rules.{MeetsRequest}
use Rattle.proof_check.proofs.labeller.LabellerRowCheckedRowCheckerCheckFault.fault.Given as goal

abbrev pub invariant-loop-pebble : goal.invariant-loop-pebble
invariant-loop-pebble l = (earlier : ℕ) → earlier < l.pebble
    → MeetsRequest configuration_positions l.checker.board l.checker.proof.labeller
    (answer_row l.checker.board l.self) earlier
