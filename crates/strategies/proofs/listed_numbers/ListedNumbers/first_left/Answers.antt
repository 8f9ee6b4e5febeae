use Rattle.strategies.proofs.ReachedNumbers.{still_apart}
use Rattle.strategies.proofs.listed_numbers.ListedNumbers.first_left.Goals as goal

pub returns-clause-once : goal.returns-clause-once
returns-clause-once c = rw (← c.self.view_is) (still_apart c.self.inside.numbers.keys c.as_slice.ensures.unique)
