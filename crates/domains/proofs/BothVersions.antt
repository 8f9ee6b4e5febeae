-- A claim is made by a document of one version exactly if it is by one of the other.
use Rattle.std.proofs.Common.{◌≡◌, ◌≤◌, ◌↔◌, subst, arith}
use Rattle.board_text.specs.PlainBoard.{PlainBoard, IsConfiguration}
use Rattle.positions.specs.Ranks.{configurations}
use Rattle.positions.specs.declared.claim.Claim.{Claim}
use Rattle.positions.specs.declared.space.TheConstants.{MAX_CONFIGURATIONS}
use Rattle.classes.proofs.Cited.{few-of-small}
use Rattle.proof_text.specs.Proof.{PlainProof, IsClaim}
use Rattle.proof_text.specs.Documents.{IsProof, IsClassProof}
use Rattle.proof_text.specs.Positions.{class_positions, configuration_positions}
use Rattle.proof_text.specs.Rules.{BreaksNoRule}
use Rattle.strategies.proofs.Cited.{claims_shown}
use Rattle.domains.proofs.ShownDocuments.{claims_of_documents, documents_for}

pub both_versions : (board : PlainBoard) (claim : Claim) → IsConfiguration board board.start
    → configurations board ≤ MAX_CONFIGURATIONS
    → ((proof : PlainProof) × IsProof board proof
    × BreaksNoRule configuration_positions board proof × (proof.claim ≡ claim))
    ↔ ((proof : PlainProof) × IsClassProof board proof
    × BreaksNoRule (class_positions board.labels) board proof × (proof.claim ≡ claim))
both_versions board claim is few =
    let less = few-of-small board few in
    let by_class = claims_shown board claim is (omega (arith, less)) in (
      λ shown. (by_class (subst IsClaim shown.3 shown.1.claim)).0 (claims_of_documents board is few claim shown),
      λ shown.
          let small : IsClaim claim = subst IsClaim shown.3 shown.1.claim in
          documents_for board is few claim small ((by_class small).1 shown),
    )
