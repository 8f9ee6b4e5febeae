use Rattle.nested_cycles.proofs.WordNumbers.{number_of-word_of, word_of-number_of, number_of_word, word_of_is_word}
use Rattle.nested_cycles.proofs.laws.words_and_numbers.Goals as goal

pub returns : goal.returns
returns c = record {
  number = number_of-word_of;
  word = word_of-number_of;
  is_number = number_of_word;
  is_word = word_of_is_word;
}
