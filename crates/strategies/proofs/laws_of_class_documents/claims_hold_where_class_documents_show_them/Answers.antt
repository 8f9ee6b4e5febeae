use Rattle.strategies.proofs.ShownClassClaims.{claims_shown}
use Rattle.strategies.proofs.laws_of_class_documents.claims_hold_where_class_documents_show_them.Goals as goal

pub returns : goal.returns
returns c = claims_shown
