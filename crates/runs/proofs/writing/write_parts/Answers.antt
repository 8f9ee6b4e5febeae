use Rattle.std.proofs.Common.{◌+◌, ◌++◌, ℕ, List, Vec, Global, take, drop, ap, sym, ◌∙◌, subst}
use Rattle.std.specs.List.{flat_map}
use Rattle.board_text.specs.Streams.{AppendsAll, bytes_of}
use Rattle.board_text.proofs.Cited.{Appends-trans}
use Rattle.runs.proofs.WrittenParts.{parts_around, parts_more, prefix_on}
use Rattle.runs.proofs.writing.write_parts.Goals as goal

pub returns-in-Err-clause-prefix : goal.returns-in-Err-clause-prefix
returns-in-Err-clause-prefix g c =
    let parts = c.args.parts.now in
    let index : ℕ = c.loop-part.part-index in
    let part = c.part-item.result in
    let front : List ℕ = flat_map (λ (p : Vec ℕ Global). p.items) (take index parts) in
    let rest : List ℕ = flat_map (λ (p : Vec ℕ Global). p.items) (drop (index + 1) parts) in
    prefix_on (g.W.Sink.contents c.args.writer.now) (g.W.Sink.contents c.loop-part.writer)
    (g.W.Sink.contents c.write_all.new.sink) (flat_map (λ (p : Vec ℕ Global). p.items) parts) front part.items rest
    (parts_around (λ (p : Vec ℕ Global). p.items) parts index part c.loop-part-test.true
    ∙ ap (λ (p : Vec ℕ Global). front ++ (p.items ++ rest)) (sym c.part-item.is))
    c.loop-part.invariant.written (rw c.as_slice.ensures.value at c.in-Err.ensures.front)

pub loop-part-preserved : goal.loop-part-preserved
loop-part-preserved g c =
    let parts = c.args.parts.now in
    let index : ℕ = c.loop-part.part-index in
    let part = c.part-item.result in
    let front : List ℕ = flat_map (λ (p : Vec ℕ Global). p.items) (take index parts) in
    record {
      ready = c.in-Ok.ensures.unfailed;
      written = subst (AppendsAll (bytes_of g.W.Sink.contents c.args.writer.now c.write_all.new.sink))
          (sym (parts_more (λ (p : Vec ℕ Global). p.items) parts index part c.loop-part-test.true
          ∙ ap (λ (p : Vec ℕ Global). front ++ p.items) (sym c.part-item.is)))
          (Appends-trans (g.W.Sink.contents c.args.writer.now) (g.W.Sink.contents c.loop-part.writer)
          (g.W.Sink.contents c.write_all.new.sink) front part.items c.loop-part.invariant.written
          (rw c.as_slice.ensures.value at c.in-Ok.ensures.ok));
    }
