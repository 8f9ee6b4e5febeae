use Rattle.round_tests.proofs.shared_rounds.+work_apart.Given as goal

abbrev pub decreases-work_apart : goal.decreases-work_apart
decreases-work_apart g l = l.seats
