use Rattle.board_text.specs.PlainBoard.{plain_board}
use Rattle.board_text.proofs.OneReading.{only_parts}
use Rattle.board_text.proofs.board.Board.build.Goals as goal

pub returns-clause-only : goal.returns-clause-only
returns-clause-only c =
    λ is. only_parts (plain_board c.args.labels c.args.pebbles c.args.start.now c.args.pairs.now) c.build_parts.result
    c.build_parts.ensures.found c.build_parts.ensures.fault is
