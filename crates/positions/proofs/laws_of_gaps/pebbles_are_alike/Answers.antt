use Rattle.positions.proofs.Rearranged.{same_answers, same_values}
use Rattle.positions.proofs.laws_of_gaps.pebbles_are_alike.Goals as goal

pub returns : goal.returns
returns c = record {
  answers = λ board first second label one two same. same_answers board first second one two same label;
  values = λ board first second place value one two same. same_values board first second one two same place value;
}
