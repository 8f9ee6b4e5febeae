use Rattle.std.proofs.Common.{◌++◌, take, ap, ◌∙◌, arith, length-take-le}
use Rattle.player.proofs.LineBuffer.{filled}
use Rattle.player.proofs.lines.Lines.fill.Goals as goal

pub returns-in-Ok-clause-filled : goal.returns-in-Ok-clause-filled
returns-in-Ok-clause-filled g c =
    let bytes = take c.in-Ok.count c.read.new.into in (
      bytes,
      filled c.self.inside.buffer c.copy_within.new.self c.read.new.into c.self.inside.from c.self.inside.to
          c.in-Ok.count _ c.self.invariant.ordered c.self.invariant.within
          c.copy_within.ensures.len c.copy_within.ensures.after c.in-Ok.ensures.bound.0
          ∙ ap (λ l. l ++ bytes) (ap (λ u. u.bytes) c.self.view_is),
      c.in-Ok.ensures.bytes.0,
      omega (arith, length-take-le c.in-Ok.count c.read.new.into c.in-Ok.ensures.bound.0, c.in-Ok.count-test.1),
      ap (λ u. u.has_ended) c.self.view_is ∙ c.requires.goes_on,
    )
