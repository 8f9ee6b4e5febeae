use Rattle.proof_text.specs.Arranged.{arranged}
use Rattle.proof_check.proofs.ClassClaims.{claim_holds, start_claim_holds}
use Rattle.proof_check.proofs.ShownClaims.{shows_normally}
use Rattle.proof_check.proofs.class_laws.class_rules_show.Goals as goal

pub returns : goal.returns
returns c = record {
  tables = λ board proof. shows_normally (arranged board.labels) board proof;
  start = start_claim_holds;
  each = claim_holds;
}
