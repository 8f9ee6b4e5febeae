use Rattle.strategies.proofs.ReachedNumbers.{tells}
use Rattle.strategies.proofs.listed_numbers.ListedNumbersReachedNumbers.contains.Goals as goal

pub returns : goal.returns
returns c = rw (c.contains.ensures, ← c.self.view_is) (tells c.self.inside.numbers.keys c.args.number)
