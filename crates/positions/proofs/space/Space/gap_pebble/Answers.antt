use Rattle.std.proofs.Common.{◌*◌, ◌≤◌, sym, subst, arith}
use Rattle.positions.specs.declared.space.TheConstants.{MAX_CONFIGURATIONS}
use Rattle.positions.proofs.GapLaws.{pebble_below}
use Rattle.positions.proofs.GapTurns.{gap_divides}
use Rattle.positions.proofs.space.Space.gap_pebble.Goals as goal

pub quotient-requires-clause-few : goal.quotient-requires-clause-few
quotient-requires-clause-few c =
    (gap_divides c.args.self.now c.args.gap c.tuples.ensures.is_board c.tuples.ensures.few c.requires).0

pub quotient-requires-clause-not_many : goal.quotient-requires-clause-not_many
quotient-requires-clause-not_many c =
    subst (λ n. c.args.gap ≤ MAX_CONFIGURATIONS * n) (sym c.tuples.ensures.value)
    (gap_divides c.args.self.now c.args.gap c.tuples.ensures.is_board c.tuples.ensures.few c.requires).1

pub overflow_cast-result : goal.overflow_cast-result
overflow_cast-result c =
    let below = pebble_below c.args.self.now c.args.gap c.requires in
    rw c.quotient.ensures (rw c.tuples.ensures.value (omega (arith, below, c.tuples.ensures.is_board.pebbles.1)))
