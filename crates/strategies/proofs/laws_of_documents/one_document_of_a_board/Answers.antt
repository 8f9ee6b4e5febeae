use Rattle.proof_text.specs.Positions.{configuration_positions}
use Rattle.strategies.proofs.PositionLaws.{are_plain}
use Rattle.strategies.proofs.OneList.{one_document, one_answer_row, one_request_row}
use Rattle.strategies.proofs.laws_of_documents.one_document_of_a_board.Goals as goal

pub returns : goal.returns
returns c = record {
  document = one_document;
  labeller = λ board. one_answer_row board configuration_positions;
  adversary = λ board. one_request_row board configuration_positions (are_plain board);
}
