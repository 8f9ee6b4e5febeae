use Rattle.player.proofs.PlayLengths.{ends_best_play, ends_exactly}
use Rattle.player.proofs.laws.best_play_ends_by_the_value.Goals as goal

pub returns-clause-ends : goal.returns-clause-ends
returns-clause-ends c = ends_best_play

pub returns-clause-exactly : goal.returns-clause-exactly
returns-clause-exactly c = ends_exactly
