use Rattle.strategies.specs.Inside.NumberedPositions.{over_ranks}
use Rattle.strategies.proofs.SidesOf.{adversarys_of}
use Rattle.strategies.proofs.rank_sections.AdversaryRowSectionRow.may_start.Goals as goal

pub returns-clause-side : goal.returns-clause-side
returns-clause-side g c = λ start.
    let kind = g.W.PositionWalk.kind c.args._here.now in
    rw c.requires.kind.ranks
    (adversarys_of (over_ranks kind.board) (rw c.requires.kind.ranks at c.requires.positions) _ _)
