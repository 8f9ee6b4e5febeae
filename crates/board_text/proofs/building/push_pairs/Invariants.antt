use Rattle.std.proofs.Common.{◌≡◌, ◌+◌, ◌≤◌, length, take}
use Rattle.board_text.specs.PlainBoard.{ArePairs}
use Rattle.board_text.proofs.building.push_pairs.Given as goal

abbrev pub invariant-loop-x : goal.invariant-loop-x
invariant-loop-x l = record {
  labels : l.beats.labels ≡ l.initial.beats.labels;
  pairs : l.beats.pairs ≡ take l.x-index l.pairs;
  are : ArePairs l.beats.labels l.beats.pairs;
  line : l.line ≡ 5 + l.x-index;
  few : length l.beats.pairs ≤ 65536;
}
