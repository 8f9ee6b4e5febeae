use Rattle.retro_core.proofs.Histories.{lost-opened, won-told, closed-once, closed-gone, closed-always}
use Rattle.retro_core.proofs.laws_of_rounds.answers_have_a_cause.Goals as goal

pub returns-clause-lost : goal.returns-clause-lost
returns-clause-lost c = lost-opened

pub returns-clause-won : goal.returns-clause-won
returns-clause-won c = won-told

pub returns-clause-closed_once : goal.returns-clause-closed_once
returns-clause-closed_once c = closed-once

pub returns-clause-closed_only : goal.returns-clause-closed_only
returns-clause-closed_only c = closed-gone

pub returns-clause-closed_always : goal.returns-clause-closed_always
returns-clause-closed_always c = closed-always
