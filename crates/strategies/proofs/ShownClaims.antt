-- The tables of the document of a board show its claim.
use Rattle.std.proofs.Common.{◌≡◌, get_or, sym, ap, ◌∙◌}
use Rattle.std.specs.List.{All}
use Rattle.std.proofs.lemmas.List.Elements.{Contains-get_or}
use Rattle.board_text.specs.PlainBoard.{PlainBoard, IsConfiguration}
use Rattle.positions.specs.declared.claim.Claim.TheVariants as claims
use Rattle.positions.specs.declared.turns.Turns.TheVariants.{Always}
use Rattle.positions.specs.declared.value.Value.{Value}
use Rattle.positions.specs.declared.value.Value.TheVariants.{Finite, Forever}
use Rattle.positions.specs.Claim.{Shows, claim_of}
use Rattle.positions.specs.Ranks.{rank_of}
use Rattle.positions.specs.Table.{AnswerRow, RequestRow}
use Rattle.proof_check.proofs.Cited.{shows_ascending}
use Rattle.proof_text.specs.Positions.{configuration_positions}
use Rattle.proof_text.specs.Proof.{PlainProof}
use Rattle.strategies.specs.Document.{IsDocumentOf}
use Rattle.strategies.specs.PositionDocument.{turns_of}
use Rattle.strategies.proofs.KeptRules.{breaks_no_rule, requested_is}
use Rattle.strategies.proofs.PositionLaws.{are_plain}

claims_forever : (value : Value) → claim_of value ≡ claims.Forever → value ≡ Forever
claims_forever (Finite number) same = absurd cc
claims_forever Forever same = λ i. Forever

module _ (board : PlainBoard) (proof : PlainProof) (is_start : IsConfiguration board board.start)
    (is : IsDocumentOf board proof) where
  always : proof.claim ≡ claims.Forever → All (λ (row : AnswerRow). row.turns ≡ Always) proof.labeller
  always same k d low =
      let is_row = (is.labeller.each (get_or proof.labeller k d)).0 (Contains-get_or proof.labeller k d low) in
      is_row.turns ∙ ap (λ value. turns_of value is_row.value) (claims_forever is.value (sym is.claim ∙ same))

  pub shows_claim : Shows board proof.labeller proof.adversary proof.claim
  shows_claim = shows_ascending (rank_of board) board proof is.labeller.ascending is.adversary.ascending always
      (λ k d low.
      let row : RequestRow = get_or proof.adversary k d in
      let is_row = ((is.adversary.each row).0 (Contains-get_or proof.adversary k d low)).1 in
      requested_is board configuration_positions (are_plain board) (rank_of board) proof is_start is is_row.moves row.at
      is_row.reached)
      (breaks_no_rule board proof is_start is)
