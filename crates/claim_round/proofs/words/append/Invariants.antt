use Rattle.std.proofs.Common.{◌≡◌, ◌++◌, take}
use Rattle.std.specs.Prelude.{vec_capacity}
use Rattle.claim_round.proofs.words.append.Given as goal

abbrev pub invariant-loop-number : goal.invariant-loop-number
invariant-loop-number l = record {
  items : l.words.items ≡ l.fn.words.items ++ take l.number-index l.numbers;
  capacity : vec_capacity l.words ≡ vec_capacity l.fn.words;
}
