-- The graph of a board whose configurations are lists of places, one for each pebble, in order.
use Rattle.board_text.specs.PlainBoard.{PlainBoard, places}
use Rattle.positions.specs.Ranks.{configurations, rank_of, configuration_at}
use Rattle.positions.specs.Gaps.{gaps, gap_of, member_of}
use Rattle.graphs.specs.Graph.{PlainGraph}
use Rattle.graphs.specs.Struck.{struck_among}

-- configurations and gaps by their ranks
abbrev pub ordered : PlainBoard → PlainGraph
ordered board = record {
  configurations = configurations board;
  gaps = gaps board;
  places = places board;
  member = λ gap place. rank_of board (member_of board gap place);
  struck = λ rank.
      let configuration = configuration_at board rank in
      struck_among board configuration (gap_of board configuration) (gaps board) board.pebbles;
}
