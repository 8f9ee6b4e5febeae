use Rattle.strategies.proofs.DocumentForm.{is_formed}
use Rattle.strategies.proofs.laws_of_documents.documents_have_their_form.Goals as goal

pub returns : goal.returns
returns c = is_formed
