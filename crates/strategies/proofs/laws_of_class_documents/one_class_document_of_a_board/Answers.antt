use Rattle.strategies.proofs.OneList.{one_class_document}
use Rattle.strategies.proofs.laws_of_class_documents.one_class_document_of_a_board.Goals as goal

pub returns : goal.returns
returns c = one_class_document
