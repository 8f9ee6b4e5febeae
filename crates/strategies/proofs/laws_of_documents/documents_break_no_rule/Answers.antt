use Rattle.strategies.proofs.KeptRules.{breaks_no_rule}
use Rattle.strategies.proofs.laws_of_documents.documents_break_no_rule.Goals as goal

pub returns : goal.returns
returns c = breaks_no_rule
