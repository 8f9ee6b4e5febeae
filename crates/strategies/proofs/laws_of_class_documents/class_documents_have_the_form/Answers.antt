use Rattle.proof_text.specs.Positions.{class_positions}
use Rattle.strategies.proofs.ClassDocumentForm.{few_classes_fit, few_gaps_claim, has_class_form}
use Rattle.strategies.proofs.LongTexts.{short_text_fits}
use Rattle.strategies.proofs.laws_of_class_documents.class_documents_have_the_form.Goals as goal

pub returns-clause-form : goal.returns-clause-form
returns-clause-form c = has_class_form

pub returns-clause-few : goal.returns-clause-few
returns-clause-few c = few_classes_fit

pub returns-clause-claim : goal.returns-clause-claim
returns-clause-claim c = λ board. few_gaps_claim (class_positions board.labels) board

pub returns-clause-short : goal.returns-clause-short
returns-clause-short c = short_text_fits
