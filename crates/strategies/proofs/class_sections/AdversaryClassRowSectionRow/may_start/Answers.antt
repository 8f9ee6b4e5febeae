use Rattle.strategies.specs.Inside.NumberedPositions.{over_kind}
use Rattle.strategies.proofs.SidesOf.{adversarys_of}
use Rattle.strategies.proofs.class_sections.AdversaryClassRowSectionRow.may_start.Goals as goal

pub returns-clause-side : goal.returns-clause-side
returns-clause-side g c = λ start.
    adversarys_of (over_kind (g.W.PositionWalk.kind c.args._here.now)) c.requires.positions _ _
