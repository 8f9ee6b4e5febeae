use Rattle.runs.proofs.AcceptedLines.{can_answer, claim_holds, class_claim_holds, symmetry_claim_holds}
use Rattle.runs.proofs.laws.accepted_claims_hold.Goals as goal

pub returns : goal.returns
returns c = record {
  least = can_answer;
  holds = claim_holds;
  by_classes = class_claim_holds;
  up_to_symmetries = symmetry_claim_holds;
}
