use Rattle.std.proofs.Common.{◌≡◌}
use Rattle.solving_tests.proofs.nested_play.ten_thousand_requests_at_the_highest_level.Given as goal

abbrev pub invariant-loop : goal.invariant-loop
invariant-loop g l = l.game.levels ≡ 24
