use Rattle.proof_check.proofs.RankFaults.{one_fault}
use Rattle.proof_check.proofs.laws.one_check_fault.Goals as goal

pub returns : goal.returns
returns c = one_fault
