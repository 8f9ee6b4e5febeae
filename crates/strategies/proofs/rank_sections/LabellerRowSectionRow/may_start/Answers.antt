use Rattle.std.proofs.Common.{rules}
use Rattle.strategies.specs.Inside.NumberedPositions.{over_kind, over_ranks}
use Rattle.strategies.proofs.SidesOf.{answerable_is, labellers_of}
use Rattle.strategies.proofs.rank_sections.LabellerRowSectionRow.may_start.Goals as goal

pub returns-clause-side : goal.returns-clause-side
returns-clause-side g c = λ start.
    let kind = g.W.PositionWalk.kind c.args.here.now in
    rw c.requires.kind.ranks
    (labellers_of (over_ranks kind.board) (rw c.requires.kind.ranks at c.requires.positions) _ _ start)

pub returns-clause-holds : goal.returns-clause-holds
returns-clause-holds g c =
    answerable_is (over_kind (g.W.PositionWalk.kind c.args.here.now)).board (g.W.PositionWalk.held c.args.here.now)
    c.best_request-value.result.0 c.lt.result c.best_request-value.ensures.value (search rules)
