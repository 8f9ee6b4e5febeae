use Rattle.std.proofs.Common.{◌≡◌, ◌++◌, ◌-◌, ℕ, List, length, false}
use Rattle.board_text.specs.Streams.{GaveNext, bytes_of}
use Rattle.player.proofs.lines.Lines.next.Given as goal

abbrev pub invariant-loop-size : goal.invariant-loop-size
invariant-loop-size g l = record {
  more : List ℕ;
  grown : l.self.bytes ≡ l.initial.self.bytes ++ more;
  read : GaveNext (bytes_of g.R.Source.remaining l.initial.reader l.reader) more;
  goes_on : l.self.has_ended ≡ false;
  unfailed : g.R.Source.has_failed l.reader ≡ false;
  ended : g.R.Source.has_ended l.reader ≡ l.self.has_ended;
}

abbrev pub decreases-loop-size : goal.decreases-loop-size
decreases-loop-size g l = 65 - length l.self.bytes
