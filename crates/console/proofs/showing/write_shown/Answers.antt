use Rattle.std.proofs.Common.{◌++◌, ◌∷◌, [], subst}
use Rattle.console.specs.Showing.{IsMore, shown}
use Rattle.console.proofs.MoreTexts.{then_more}
use Rattle.console.proofs.ShownTexts.{shown_further, shown_last}
use Rattle.console.proofs.showing.write_shown.Goals as goal

pub loop-plain-preserved : goal.loop-plain-preserved
loop-plain-preserved g c =
    let known = g.E.Sink.contents in
    let failed = g.E.Sink.has_failed in
    let e0 = c.args.errors.now in
    let e1 = c.loop-plain.errors in
    let e2 = c.write_bytes.new.writer in
    let done = c.loop-plain.invariant.0 in
    let front = c.in-Some.plain.now in
    let one = then_more known failed e0 e1 e2 done front c.loop-plain.invariant.1 c.write_bytes.ensures in (
      (done ++ front) ++ (63 ∷ []),
      then_more known failed e0 e2 c.write_more.new.writer (done ++ front) (63 ∷ []) one c.write_more.ensures,
      shown_further (shown c.args.text.now) done (shown c.loop-plain.rest.now) front (shown c.in-Some.later.now)
          c.loop-plain.invariant.2 c.in-Some.ensures.0,
    )

pub returns : goal.returns
returns g c =
    let known = g.E.Sink.contents in
    let failed = g.E.Sink.has_failed in
    let done = c.loop-plain.invariant.0 in
    subst (IsMore known failed c.args.errors.now c.write_bytes-2.new.writer)
    (shown_last (shown c.args.text.now) done c.loop-plain.rest.now c.loop-plain.invariant.2 c.in_default.ensures)
    (then_more known failed c.args.errors.now c.loop-plain.errors c.write_bytes-2.new.writer done
    c.loop-plain.rest.now c.loop-plain.invariant.1 c.write_bytes-2.ensures)
