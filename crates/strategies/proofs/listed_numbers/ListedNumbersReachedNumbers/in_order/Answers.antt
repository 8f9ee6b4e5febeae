use Rattle.std.proofs.Common.{◌≡◌, rules}
use Rattle.strategies.proofs.ReachedNumbers.{in_order}
use Rattle.strategies.proofs.listed_numbers.ListedNumbersReachedNumbers.in_order.Goals as goal

pub returns : goal.returns
returns c =
    let items : c.extend_from_slice.new.self.items ≡ c.self.inside.numbers.keys = search rules in
    rw (← c.self.view_is)
    (in_order c.self.inside.numbers.keys c.sort_unstable.new.self.items c.as_slice-numbers.ensures.unique
    (rw items at c.sort_unstable.ensures.permutation) c.sort_unstable.ensures.sorted)
