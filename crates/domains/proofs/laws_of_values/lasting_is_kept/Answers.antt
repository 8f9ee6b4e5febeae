use Rattle.std.proofs.Common.{◌∙◌}
use Rattle.std.proofs.lemmas.List.{length-set}
use Rattle.domains.proofs.LastingMoves.{lasting_answer}
use Rattle.domains.proofs.LoweredValues.{some_rank}
use Rattle.domains.proofs.laws_of_values.lasting_is_kept.Goals as goal

pub returns : goal.returns
returns c = record {
  for_ever = λ board configuration both pebble below.
      let answer = lasting_answer board configuration pebble both.0 below both.1 in
      (answer.0, answer.1, (length-set configuration pebble answer.0 ∙ both.0, answer.2));
  finite = some_rank;
}
