-- The claim of a document by classes that breaks no rule holds of each configuration of the start's class.
use Rattle.std.proofs.Common.{◌≡◌, ℕ, List, refl}
use Rattle.board_text.specs.PlainBoard.{PlainBoard, IsConfiguration}
use Rattle.classes.specs.Classes.{class_of}
use Rattle.positions.specs.Claim.{Holds, HoldsAt}
use Rattle.proof_text.specs.Positions.{class_positions}
use Rattle.proof_text.specs.Proof.{PlainProof}
use Rattle.proof_text.specs.Rules.{BreaksNoRule}
use Rattle.symmetries.proofs.Cited.{arranged_keeps_values, arranged_too, claim_holds as claim_holds_over}

pub claim_holds : (board : PlainBoard) (proof : PlainProof) (configuration : List ℕ)
    → IsConfiguration board board.start
    → IsConfiguration board configuration → class_of configuration ≡ class_of board.start
    → BreaksNoRule (class_positions board.labels) board proof → HoldsAt board configuration proof.claim
claim_holds board proof configuration start is same rules =
    claim_holds_over (class_positions board.labels) board proof configuration (arranged_keeps_values board) is
    (arranged_too board.labels configuration board.start same) rules

pub start_claim_holds : (board : PlainBoard) (proof : PlainProof) → IsConfiguration board board.start
    → BreaksNoRule (class_positions board.labels) board proof → Holds board proof.claim
start_claim_holds board proof is rules = claim_holds board proof board.start is is refl rules
