use Rattle.std.proofs.Common.{◌<◌, ◌∙◌, arith}
use Rattle.graphs.specs.Graph.{PlainGraph}
use Rattle.graphs.specs.Numbered.{graph_of}
use Rattle.solver.proofs.OpenMembers.{walk-skip, walk-take}
use Rattle.solver.proofs.source_walk.SourceWalk.take_next.Goals as goal

pub returns-then-self-member : goal.returns-then-self-member
returns-then-self-member g c =
    let a : PlainGraph = graph_of c.loop-place.self-inside.graph.now in
    let low : c.loop-place.place < a.places = omega (arith, c.loop-place-test.true, c.loop-place.invariant.end) in
    c.loop-place.invariant.left ∙ walk-take a c.loop-place.self-inside.words.now c.loop-place.self-inside.gap
    c.loop-place.place c.member-member.result low c.member-member.ensures.member c.if-self-member.true

pub loop-place-preserved : goal.loop-place-preserved
loop-place-preserved g c =
    let a : PlainGraph = graph_of c.loop-place.self-inside.graph.now in
    let low : c.loop-place.place < a.places = omega (arith, c.loop-place-test.true, c.loop-place.invariant.end) in
    record {
      end = c.loop-place.invariant.end;
      left = c.loop-place.invariant.left ∙ walk-skip a c.loop-place.self-inside.words.now c.loop-place.self-inside.gap
          c.loop-place.place c.member-member.result low c.member-member.ensures.member c.if-self-member.false;
      walk = c.loop-place.invariant.walk;
    }
