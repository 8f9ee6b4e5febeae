use Rattle.domains.proofs.PlayedChains.{asked_all, asked_chained, asked_later, asked_once}
use Rattle.domains.proofs.laws_of_chains.asked_labels_are_chains.Goals as goal

pub returns : goal.returns
returns c = record {
  later = λ board start newer older configuration pebble other long.
      asked_later board start long newer older configuration pebble other;
  chain = λ board start requests configuration long. asked_chained board start long requests configuration;
  once = asked_once;
  all = asked_all;
}
