use Rattle.player.proofs.NestedTrees.{lasts, is_legal, after_request, plays_stand_well, has_board, built_board}
use Rattle.player.proofs.NestedTrees.{start_of_zeros}
use Rattle.player.proofs.nested_laws.nested_boards_last_for_ever.Goals as goal

pub returns : goal.returns
returns c = record {
  good = λ levels board configuration nested good depth. lasts levels board depth configuration nested good;
  replies = λ levels board configuration pebble label nested good inside low reply. (
    is_legal levels board configuration pebble label nested good inside low reply,
    after_request levels board configuration pebble label nested good inside low reply,
  );
  plays = λ levels board lines text at requests nested each played depth. lasts levels board depth at nested
      (plays_stand_well levels board nested each lines text at requests played);
  each_level = has_board;
  built = built_board;
  start = λ levels pebbles board few is depth. lasts levels board depth board.start
      (built_board levels pebbles board few is) (start_of_zeros levels board pebbles is.pebbles is.start);
}
