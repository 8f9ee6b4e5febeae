use Rattle.std.proofs.Common.{ℕ, ◌<◌, ◌≢◌, slice_index}
use Rattle.proof_check.proofs.class_adversary.asked_pebble.Given as goal

abbrev pub invariant-loop-pebble : goal.invariant-loop-pebble
invariant-loop-pebble l = (earlier : ℕ) → earlier < l.pebble → slice_index l.row.at earlier ≢ l.row.ask
