use Rattle.std.proofs.Common.{◌∙◌}
use Rattle.proof_check.proofs.RowSearch.{the_row, no_row}
use Rattle.proof_check.proofs.row_numbers.find.Goals as goal

pub returns-in-Some : goal.returns-in-Some
returns-in-Some g c = λ wanted is same.
    the_row c.args.board.now g.R.ClassRow.at c.args.rows.now c.requires.rows wanted is c.in-Some.index
    c.index-rows-index.result (rw c.requires.numbers at c.in-Some.ensures.0)
    (rw c.requires.numbers at c.in-Some.ensures.1 ∙ same) c.index-rows-index.is

pub returns-in-None : goal.returns-in-None
returns-in-None g c = λ wanted is same.
    no_row c.args.board.now g.R.ClassRow.at c.args.rows.now c.requires.rows wanted is
    (rw (c.requires.numbers, same) at c.in-None.ensures)
