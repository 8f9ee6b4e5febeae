use Rattle.std.proofs.Common.{◌*◌, ◌≤◌, sym, subst}
use Rattle.positions.specs.declared.space.TheConstants.{MAX_CONFIGURATIONS}
use Rattle.positions.proofs.GapTurns.{gap_divides}
use Rattle.positions.proofs.space.Space.gap_tuple.Goals as goal

pub rest-requires-clause-few : goal.rest-requires-clause-few
rest-requires-clause-few c =
    (gap_divides c.args.self.now c.args.gap c.tuples.ensures.is_board c.tuples.ensures.few c.requires).0

pub rest-requires-clause-not_many : goal.rest-requires-clause-not_many
rest-requires-clause-not_many c =
    subst (λ n. c.args.gap ≤ MAX_CONFIGURATIONS * n) (sym c.tuples.ensures.value)
    (gap_divides c.args.self.now c.args.gap c.tuples.ensures.is_board c.tuples.ensures.few c.requires).1
