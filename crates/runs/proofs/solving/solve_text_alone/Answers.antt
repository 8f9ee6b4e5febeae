use Rattle.command_line.specs.declared.asked.BoardLimit.TheVariants.{Small}
use Rattle.runs.proofs.BoardLimits.{few_gaps}
use Rattle.runs.proofs.solving.solve_text_alone.Goals as goal

pub of-requires-clause-few : goal.of-requires-clause-few
of-requires-clause-few c =
    few_gaps Small c.in_ok-board.board c.in_ok-board.ensures.found.is_board c.in_ok-board.ensures.found.few

pub returns-clause-ok : goal.returns-clause-ok
returns-clause-ok c =
    let made = rw c.new-moves.ensures at c.in_ok-document_text.ensures in (
      c.in_ok-board.board,
      c.in_ok-board.ensures.found,
      record {
        has_value = made.value;
        document = made.text.0;
        is_document = made.text.1;
        text_is = made.text.2;
      },
    )
