use Rattle.std.proofs.Common.{◌≡◌, false, take}
use Rattle.std.specs.List.{flat_map}
use Rattle.board_text.specs.Streams.{AppendsAll, bytes_of}
use Rattle.runs.proofs.writing.write_parts.Given as goal

abbrev pub invariant-loop-part : goal.invariant-loop-part
invariant-loop-part g l = record {
  ready : g.W.Sink.has_failed l.writer ≡ false;
  written : AppendsAll (bytes_of g.W.Sink.contents l.initial.writer l.writer)
      (flat_map (λ part. part.items) (take l.part-index l.parts));
}
