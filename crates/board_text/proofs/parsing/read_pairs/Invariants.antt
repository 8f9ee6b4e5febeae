use Rattle.std.proofs.Common.{◌≡◌, ◌+◌, ◌≤◌, ◌++◌, length}
use Rattle.std.specs.List.{flat_map}
use Rattle.board_text.specs.PlainBoard.{ArePairs}
use Rattle.board_text.specs.BoardText.{beats_line}
use Rattle.board_text.proofs.parsing.read_pairs.Given as goal

abbrev pub invariant-lines : goal.invariant-lines
invariant-lines l = record {
  labels : l.beats.labels ≡ l.initial.beats.labels;
  pairs : ArePairs l.beats.labels l.beats.pairs;
  read : l.initial.text ≡ flat_map beats_line l.beats.pairs ++ l.text;
  line : l.line ≡ 5 + length l.beats.pairs;
  few : length l.beats.pairs ≤ 65536;
}

abbrev pub decreases-lines : goal.decreases-lines
decreases-lines l = length l.text
