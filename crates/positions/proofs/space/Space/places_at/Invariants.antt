use Rattle.positions.specs.Ranks.{configuration_at}
use Rattle.positions.proofs.HeldPlaces.{AreFirstHeld}
use Rattle.positions.proofs.space.Space.places_at.Given as goal

abbrev pub invariant-loop-pebble : goal.invariant-loop-pebble
invariant-loop-pebble l = AreFirstHeld (configuration_at l.self l.rank) l.pebble l.held
