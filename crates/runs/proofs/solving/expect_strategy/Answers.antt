use Rattle.std.proofs.Common.{subst}
use Rattle.positions.specs.Value.{HasValue}
use Rattle.runs.proofs.SidedRuns.{finite_strategy}
use Rattle.runs.proofs.solving.expect_strategy.Goals as goal

pub returns-in-Finite-clause-ok : goal.returns-in-Finite-clause-ok
returns-in-Finite-clause-ok g c =
    let board = c.args.moves.now in
    let number = c.in-Finite.field-0 in
    let has = rw (c.start.ensures.value, c.board.ensures) at (subst (HasValue board c.start.result.now) c.in-Finite.is
    c.value.ensures) in
    finite_strategy board c.args.side number has
