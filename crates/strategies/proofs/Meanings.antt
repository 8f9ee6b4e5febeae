-- The document of a board means the value of its start.
use Rattle.std.proofs.Common.{◌≡◌, suc, ap, ◌∙◌, subst}
use Rattle.board_text.specs.PlainBoard.{PlainBoard, IsConfiguration}
use Rattle.positions.specs.declared.value.Value.{Value}
use Rattle.positions.specs.declared.value.Value.TheVariants.{Finite, Forever}
use Rattle.positions.specs.declared.claim.Claim.TheVariants as claims
use Rattle.positions.specs.Claim.{Shows, claim_of}
use Rattle.positions.specs.Value.{HasValue}
use Rattle.positions.proofs.Cited.{not_both_trees, same_value}
use Rattle.proof_text.specs.Proof.{PlainProof}
use Rattle.strategies.specs.Document.{IsDocumentOf}
use Rattle.strategies.specs.Meaning.{Means}
use Rattle.strategies.proofs.ShownClaims.{shows_claim}

by_shown : (board : PlainBoard) (proof : PlainProof) (value : Value) → HasValue board board.start value
    → proof.claim ≡ claim_of value → Shows board proof.labeller proof.adversary proof.claim
    → Means board proof value
by_shown board proof (Finite number) has claim shows =
    let shown : Shows board proof.labeller proof.adversary (claims.Exactly number)
    = subst (Shows board proof.labeller proof.adversary) claim shows in (
      claim,
      has.0,
      has.1,
      (λ lasts. not_both_trees board (suc number) board.start lasts has.1),
      shown.0,
      shown.1,
    )
by_shown board proof Forever has claim shows =
    let shown : Shows board proof.labeller proof.adversary claims.Forever
    = subst (Shows board proof.labeller proof.adversary) claim shows in
    (claim, has, shown.0, shown.1)

pub means_value : (board : PlainBoard) (proof : PlainProof) (value : Value)
    → IsConfiguration board board.start → IsDocumentOf board proof
    → HasValue board board.start value → Means board proof value
means_value board proof value is_start is has =
    let same : is.value ≡ value = same_value board board.start is.value value is.has_value has in
    by_shown board proof value has (is.claim ∙ ap claim_of same) (shows_claim board proof is_start is)
