use Rattle.std.proofs.Common.{ℕ, ◌/◌, ◌^◌, ◌<◌, get_or}
use Rattle.proof_check.proofs.searched_numbers.first_from.Given as goal

abbrev pub invariant-loop-index : goal.invariant-loop-index
invariant-loop-index l = (place : ℕ) → place < l.index → get_or l.numbers place 0 / 2 ^ l.shift < l.part
