use Rattle.std.proofs.Common.{◌≡◌, ℕ, ◌<◌, length, get_or}
use Rattle.board_text.specs.declared.board.TheConstants.{MAX_PEBBLES}
use Rattle.positions.specs.Ranks.{configuration_at}
use Rattle.positions.proofs.RankTurns.{IsRankRest}
use Rattle.positions.proofs.space.Space.moves.Given as goal

abbrev pub invariant-loop-pebble : goal.invariant-loop-pebble
invariant-loop-pebble l = record {
  sized : length l.places ≡ MAX_PEBBLES;
  rest : IsRankRest l.self l.rank l.pebble l.rest;
  each : (k : ℕ) → k < l.pebble → get_or l.places k 0 ≡ get_or (configuration_at l.self l.rank) k 0;
}
