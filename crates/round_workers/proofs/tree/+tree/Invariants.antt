use Rattle.std.proofs.Common.{◌+◌, ◌-◌, ◌*◌}
use Rattle.round_workers.proofs.tree.+tree.Given as goal

-- a part of a seat is narrower than the seat; the numbers below order the calls between one node and the next
abbrev pub decreases-share : goal.decreases-share
decreases-share g l = 4 * l.seat.view.has.width

abbrev pub decreases-apart : goal.decreases-apart
decreases-apart g l = 4 * (l.seats.0.view.has.width + l.seats.1.view.has.width) - 1

abbrev pub decreases-apart-scope : goal.decreases-apart-scope
decreases-apart-scope g l = 4 * (l.left.view.has.width + l.right.view.has.width) - 2

abbrev pub decreases-apart-scope-spawn_with : goal.decreases-apart-scope-spawn_with
decreases-apart-scope-spawn_with g l = 4 * l.right.view.has.width + 1
