use Rattle.std.proofs.Common.{ap, ◌++◌, ◌∙◌}
use Rattle.std.proofs.lemmas.Result.{err_from_is_err_and}
use Rattle.player.specs.Inside.Transcript.{standing_of}
use Rattle.player.proofs.WrittenPlay.{unshown}
use Rattle.player.proofs.turns.answer_line.Goals as goal

pub returns-in_err-flush-clause-fault : goal.returns-in_err-flush-clause-fault
returns-in_err-flush-clause-fault g c =
    let said = c.in-Ok.ensures.said in
    let p = err_from_is_err_and c.from_residual.result c.from_residual.ensures.1 in
    unshown _ _ _ _ _ said.0 p.1 (p.2 ∙ c.in_err-flush.ensures.fault.0) c.in_err-flush.ensures.front
    (said.1 ∙ ap (λ l. l ++ said.0) c.requires.empty) (standing_of c.in-Ok.end _ _, said.2)
