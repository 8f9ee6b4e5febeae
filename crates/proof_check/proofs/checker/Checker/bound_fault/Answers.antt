use Rattle.std.proofs.Common.{rules}
use Rattle.proof_check.proofs.checker.Checker.bound_fault.Goals as goal

pub returns-in_default : goal.returns-in_default
returns-in_default c = search rules
