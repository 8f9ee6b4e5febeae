-- The number of rows of a document.
use Rattle.std.proofs.Common.{◌≡◌, ◌+◌, length, arith}
use Rattle.std.proofs.lemmas.List.{length-map}
use Rattle.board_text.specs.PlainBoard.{PlainBoard}
use Rattle.proof_text.specs.Proof.{answer_row, plain_proof, request_row}
use Rattle.proof_text.specs.declared.proof.Proof.{Proof}
use Rattle.runs.specs.Verdicts.{row_count}

pub rows : (board : PlainBoard) (proof : Proof)
    → length proof.labeller.items + length proof.adversary.items ≡ row_count (plain_proof board proof)
rows board proof =
    let labeller = length-map proof.labeller.items (answer_row board) in
    let adversary = length-map proof.adversary.items (request_row board) in
    omega (arith, labeller, adversary)
