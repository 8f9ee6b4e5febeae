use Rattle.std.proofs.lemmas.Result.{IfOk-weaker}
use Rattle.round_tests.proofs.histories.close_by_steps.Goals as goal

pub returns : goal.returns
returns g c =
    IfOk-weaker c.close.result _ _ (λ closed is. (is.first, is.last, is.steps, is.leads, is.values))
    c.close.ensures.history
