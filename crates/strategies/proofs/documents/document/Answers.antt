use Rattle.strategies.proofs.documents.document.Goals as goal

pub returns : goal.returns
returns c = rw c.new-moves.ensures at c.document_by.ensures
