use Rattle.command_line.proofs.ShownKinds.{helped}
use Rattle.command_line.proofs.words.fault.Goals as goal

pub returns-then-wants_help-clause-shows : goal.returns-then-wants_help-clause-shows
returns-then-wants_help-clause-shows c = helped _ _ _ c.help.ensures (c.wants_help.ensures.yes c.if-wants_help.true)
