use Rattle.board_text.proofs.SomeReading as some
use Rattle.board_text.proofs.OneReading as one
use Rattle.board_text.proofs.laws.board_or_fault.Goals as goal

pub returns-clause-either : goal.returns-clause-either
returns-clause-either c = λ text. some.board_or_fault text

pub returns-clause-not_both : goal.returns-clause-not_both
returns-clause-not_both c = λ text is faulty. one.not_both text faulty.0 faulty.1 is.0 is.1 is.2 faulty.2 faulty.3
