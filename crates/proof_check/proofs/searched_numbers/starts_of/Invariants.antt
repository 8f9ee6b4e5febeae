use Rattle.std.proofs.Common.{◌≡◌, ◌≤◌, ◌<◌, ◌/◌, ◌^◌, ℕ, length, get_or}
use Rattle.proof_check.specs.Inside.PartedNumbers.{AreStarts}
use Rattle.proof_check.proofs.searched_numbers.starts_of.Given as goal

abbrev pub invariant-loop-part : goal.invariant-loop-part
invariant-loop-part l = record {
  count : length l.starts.items ≡ l.part;
  are : AreStarts l.numbers l.shift l.starts.items;
  within : l.start ≤ length l.numbers;
  before : (place : ℕ) → place < l.start → get_or l.numbers place 0 / 2 ^ l.shift < l.part;
}
