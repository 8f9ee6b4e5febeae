use Rattle.positions.proofs.Ranks.{rank_of-configuration_at, configuration_at-rank_of, rank_below, configuration_at_is}
use Rattle.positions.proofs.laws_of_ranks.ranks_and_configurations.Goals as goal

pub returns : goal.returns
returns c = record {
  rank = rank_of-configuration_at;
  configuration = configuration_at-rank_of;
  is_rank = rank_below;
  is_configuration = configuration_at_is;
}
