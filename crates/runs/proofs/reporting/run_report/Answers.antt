use Rattle.std.proofs.lemmas.Result.{IfErr-weaker, IfOk-weaker}
use Rattle.runs.proofs.reporting.run_report.Goals as goal

pub returns-clause-ok : goal.returns-clause-ok
returns-clause-ok g c =
    IfOk-weaker c.summarize.result _ _ (λ done ran. ran) (rw c.of.ensures at c.summarize.ensures.ok)

pub returns-clause-fault : goal.returns-clause-fault
returns-clause-fault g c =
    IfErr-weaker c.summarize.result _ _ (λ fault fails. fails) (rw c.of.ensures at c.summarize.ensures.fault)
