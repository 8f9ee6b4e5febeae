use Rattle.std.proofs.Common.{arith}
use Rattle.gap_values.proofs.closing.is_among.Goals as goal

pub returns : goal.returns
returns c =
    let past = c.loop-index-test.false in
    let end = c.loop-index.auto.index-end in (
      λ yes.
          let some = c.loop-index.invariant.0 yes in
          let low = some.2 in (some.0, some.1, omega (arith, low, end, c.requires.order), some.3),
      λ some.
          let low = some.2 in c.loop-index.invariant.1 (some.0, some.1, omega (arith, low, past), some.3),
    )
