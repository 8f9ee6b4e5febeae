use Rattle.std.proofs.Common.{◌≡◌, ◌<◌}
use Rattle.positions.specs.Ranks.{configurations}
use Rattle.solving_tests.proofs.nested_play.assert_lasting.Given as goal

abbrev pub invariant-loop : goal.invariant-loop
invariant-loop g l = record {
  levels : l.game.levels ≡ l.levels;
  same_board : l.values ≡ l.board;
  rank : l.rank < configurations l.board;
}
