use Rattle.std.specs.Fmt.{decimal}
use Rattle.console.specs.Showing.{shown}
use Rattle.console.proofs.Cited.{plain_if_shown}
use Rattle.explanations.proofs.note_lines.write_part.Goals as goal

pub returns-in-Words : goal.returns-in-Words
returns-in-Words g c =
    (shown c.in-Words.words.now, plain_if_shown c.in-Words.words.now, c.write_shown.ensures)

pub returns-in-Number : goal.returns-in-Number
returns-in-Number g c =
    (decimal c.in-Number.number, c.write_digits.ensures.plain, c.write_digits.ensures.digits)
