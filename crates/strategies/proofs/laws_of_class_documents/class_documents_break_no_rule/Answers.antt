use Rattle.strategies.proofs.KeptRules.{breaks_no_class_rule}
use Rattle.strategies.proofs.laws_of_class_documents.class_documents_break_no_rule.Goals as goal

pub returns : goal.returns
returns c = breaks_no_class_rule
