use Rattle.std.proofs.Common.{◌≡◌, ◌+◌, ◌-◌, ◌≤◌, length, take, false}
use Rattle.board_text.specs.Streams.{GaveNext, bytes_of}
use Rattle.board_text.proofs.read_write.read_all.Given as goal

abbrev pub invariant-loop-filled : goal.invariant-loop-filled
invariant-loop-filled g l = record {
  filled : l.filled ≤ length l.bytes.items;
  room : length l.bytes.items ≤ l.limit + 1;
  given : GaveNext (bytes_of g.S.Source.remaining l.initial.source l.source) (take l.filled l.bytes.items);
  unfailed : g.S.Source.has_failed l.source ≡ false;
  unended : g.S.Source.has_ended l.source ≡ false;
}

abbrev pub decreases-loop-filled : goal.decreases-loop-filled
decreases-loop-filled g l = l.limit + 1 - l.filled
