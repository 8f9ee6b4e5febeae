use Rattle.command_line.proofs.OneKind.{no_answer_and_misuse, no_help_and_version}
use Rattle.command_line.proofs.laws.words_ask_for_one_answer.Goals as goal

pub returns-clause-help : goal.returns-clause-help
returns-clause-help c = λ words. no_help_and_version words

pub returns-clause-misuse : goal.returns-clause-misuse
returns-clause-misuse c = λ words. no_answer_and_misuse words
