use Rattle.domains.proofs.UsedLabels.{part_lasts, part_lasts_exactly}
use Rattle.domains.proofs.laws_of_followers.unused_labels_can_go.Goals as goal

pub returns : goal.returns
returns c = record {
  last = λ board part image configuration other keeps. part_lasts board part image keeps configuration other;
  exactly = part_lasts_exactly;
}
