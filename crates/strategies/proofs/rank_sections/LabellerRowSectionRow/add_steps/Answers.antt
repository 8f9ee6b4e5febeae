use Rattle.std.proofs.Common.{refl}
use Rattle.strategies.proofs.Expanded.{steps_taken}
use Rattle.strategies.proofs.rank_sections.LabellerRowSectionRow.add_steps.Goals as goal

pub returns : goal.returns
returns g c = steps_taken _ _ _ _ _ c.add_answers.result c.requires.expanded refl refl c.add_answers.ensures.added
    c.add_answers.ensures.room
