use Rattle.proof_check.proofs.RankFaults.{only_memory}
use Rattle.proof_check.proofs.laws.unbroken_rules_leave_no_fault.Goals as goal

pub returns : goal.returns
returns c = only_memory
