use Rattle.strategies.proofs.SomeDocument.{class_document_exists}
use Rattle.strategies.proofs.laws_of_class_documents.each_board_has_a_class_document.Goals as goal

pub returns : goal.returns
returns c = class_document_exists
