use Rattle.std.proofs.Common.{◌-◌}
use Rattle.nested_cycles.proofs.Dominations as dominations
use Rattle.nested_cycles.proofs.laws.one_of_two.Goals as goal

pub returns-clause-words : goal.returns-clause-words
returns-clause-words c = dominations.one_of_two

pub returns-clause-labels : goal.returns-clause-labels
returns-clause-labels c = λ levels x y are differ. dominations.one_of_two_labels (levels - 1) x y are.0 are.1 differ
