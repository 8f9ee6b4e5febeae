use Rattle.domains.proofs.SharedLabels.{best_start, first_trees, first_value, lasting_start}
use Rattle.domains.proofs.laws_of_starts.one_label_is_the_best_start.Goals as goal

pub returns : goal.returns
returns c = record {
  best = best_start;
  for_ever = lasting_start;
  trees_from_none = first_trees;
  value_from_none = first_value;
}
