use Rattle.claim_round.specs.Shared.{IsOf}
use Rattle.round_tests.proofs.histories.work_in_pairs.Given as goal

abbrev pub invariant-loop : goal.invariant-loop
invariant-loop g l = IsOf l.round l.seat
