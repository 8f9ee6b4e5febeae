use Rattle.command_line.proofs.HelpTexts.{named}
use Rattle.command_line.proofs.words.names.Goals as goal

pub returns : goal.returns
returns c = λ yes. named c.args.text.now c.args.name.now (rw yes at c.contains.ensures.cases)
