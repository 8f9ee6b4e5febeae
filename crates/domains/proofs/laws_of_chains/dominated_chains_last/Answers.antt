use Rattle.domains.proofs.AnyAnswers.{answered_covered, chains_need_labels}
use Rattle.domains.proofs.DominatedChains.{chains_of_dominated, dominated_chains_last, short_covered_last}
use Rattle.domains.proofs.laws_of_chains.dominated_chains_last.Goals as goal

pub returns : goal.returns
returns c = record {
  on_one_label = λ board count label dominated more. dominated_chains_last board count more dominated label;
  on_chains = λ board count configuration more dominated covered.
      short_covered_last board count more dominated configuration covered;
  any_answer = λ board count configuration pebble label more dominated covered below legal.
      answered_covered board count more dominated configuration pebble label covered below legal;
  of_lists = chains_of_dominated;
  labels = chains_need_labels;
}
