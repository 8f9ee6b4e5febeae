use Rattle.std.proofs.Common.{◌≡◌, ◌++◌, ℕ, List, length, false}
use Rattle.board_text.specs.Streams.{AppendsAll, bytes_of}
use Rattle.board_text.proofs.read_write.write_all.Given as goal

abbrev pub invariant-loop-rest : goal.invariant-loop-rest
invariant-loop-rest g l = record {
  front : List ℕ;
  all : l.bytes ≡ front ++ l.rest;
  taken : AppendsAll (bytes_of g.S.Sink.contents l.initial.sink l.sink) front;
  unfailed : g.S.Sink.has_failed l.sink ≡ false;
}

abbrev pub decreases-loop-rest : goal.decreases-loop-rest
decreases-loop-rest g l = length l.rest
