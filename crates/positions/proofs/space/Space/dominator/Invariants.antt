use Rattle.std.proofs.Common.{ℕ, ◌<◌}
use Rattle.positions.specs.Gaps.{IsDominator}
use Rattle.positions.specs.Ranks.{configuration_at}
use Rattle.positions.proofs.space.Space.dominator.Given as goal

abbrev pub invariant-loop-pebble : goal.invariant-loop-pebble
invariant-loop-pebble l =
    (earlier : ℕ) → earlier < l.pebble → IsDominator l.self (configuration_at l.self l.rank) earlier → ⊥
