use Rattle.std.proofs.lemmas.Result.{on_ok_weaker}
use Rattle.runs.proofs.nesting.run_nested.Goals as goal

pub returns-clause-ok : goal.returns-clause-ok
returns-clause-ok g c =
    on_ok_weaker c.write_text.result (λ written. (_, c.in_ok-text.ensures.text, rw c.deref.ensures at written))
    c.write_text.ensures.ok
