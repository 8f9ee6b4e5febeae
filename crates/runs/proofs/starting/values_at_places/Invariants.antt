use Rattle.std.proofs.Common.{◌≡◌, ℕ, ◌<◌, length, replicate}
use Rattle.std.specs.Prelude.{slice_index_or}
use Rattle.positions.specs.Value.{HasValue}
use Rattle.positions.specs.declared.value.Value.TheVariants.{Forever}
use Rattle.runs.proofs.starting.values_at_places.Given as goal

abbrev pub invariant-loop-place : goal.invariant-loop-place
invariant-loop-place g l = record {
  long : length l.values.items ≡ l.place;
  each : (place : ℕ) → place < l.place
      → HasValue l.board (replicate l.board.pebbles place) (slice_index_or l.values.items place Forever);
}
