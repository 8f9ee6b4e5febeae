use Rattle.std.proofs.Common.{◌≡◌, Ok, Err, IfOk, IfErr, Result, sym, subst}
use Rattle.retro_core.specs.declared.step.Step.{Step as StepData}
use Rattle.retro_core.specs.declared.step.Step.TheVariants as steps
use Rattle.retro_core.specs.declared.step.Seen.{Seen as SeenData}
use Rattle.retro_core.specs.declared.step.StepFault.{StepFault}
use Rattle.solver.specs.Solving.{IsSolving}
use Rattle.retro_core.specs.Round.{Round, IsLawful}
use Rattle.retro_core.specs.Stepping.{Does, Refuses}
use Rattle.retro_core.proofs.RoundSteps.{step-lawful}
use Rattle.retro_core.proofs.round_state.RoundState.apply.Goals as goal

-- a round is lawful after a step, and after a refused one as before
applied : (old new : Round) (step : StepData) (result : Result SeenData StepFault) → IsSolving old.solving
    → IsLawful old
    → IfOk result (λ seen. Does old step seen new) → IfErr result (λ fault. Refuses old step fault × (new ≡ old))
    → IsLawful new
applied old new step (Ok seen) sol law done refused = step-lawful old step seen new sol law done
applied old new step (Err fault) sol law done refused = subst IsLawful (sym refused.1) law

pub returns-in-Strike-clause-lawful : goal.returns-in-Strike-clause-lawful
returns-in-Strike-clause-lawful g c =
    applied _ _ (steps.Strike c.in-Strike.seat) _ c.lacks_seat.ensures.solving c.lacks_seat.ensures.lawful
    c.strike.ensures.done c.strike.ensures.refused

pub returns-in-Try-clause-lawful : goal.returns-in-Try-clause-lawful
returns-in-Try-clause-lawful g c =
    applied _ _ (steps.Try c.in-Try.seat) _ c.lacks_seat.ensures.solving c.lacks_seat.ensures.lawful
    c.claim.ensures.done c.claim.ensures.refused

pub returns-in-Split-clause-lawful : goal.returns-in-Split-clause-lawful
returns-in-Split-clause-lawful g c =
    applied _ _ (steps.Split c.in-Split.seat) _ c.lacks_seat.ensures.solving c.lacks_seat.ensures.lawful
    c.split.ensures.done c.split.ensures.refused

pub returns-in-Join-clause-lawful : goal.returns-in-Join-clause-lawful
returns-in-Join-clause-lawful g c =
    applied _ _ (steps.Join c.in-Join.into c.in-Join.from) _ c.lacks_seat.ensures.solving c.lacks_seat.ensures.lawful
    c.join.ensures.done c.join.ensures.refused
