use Rattle.std.proofs.lemmas.Result.{IfOk-weaker}
use Rattle.strategies.proofs.text.document_text.Goals as goal

pub returns-clause-value : goal.returns-clause-value
returns-clause-value g c =
    let has = c.start_value-value.ensures.value in
    IfOk-weaker c.text_of.result _ _ (λ made same. rw same has) c.text_of.ensures.value
