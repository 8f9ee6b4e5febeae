use Rattle.strategies.proofs.SomeDocument.{document_exists}
use Rattle.strategies.proofs.laws_of_documents.each_board_has_a_document.Goals as goal

pub returns : goal.returns
returns c = document_exists
