use Rattle.std.proofs.Common.{codes}
use Rattle.std.specs.Fmt.{decimal}
use Rattle.console.proofs.Cited.{then_shown}
use Rattle.player.proofs.prompts.tell_start.Goals as goal

pub returns-in-Finite : goal.returns-in-Finite
returns-in-Finite g c =
    rw c.in-Finite.is (then_shown g.E.Sink.contents g.E.Sink.has_failed c.args.errors.now c.write_digits.new.errors
    c.write_shown.new.errors (decimal c.in-Finite.number)
    (codes " can be answered from the start: the play could have gone on")
    (rw c.from.ensures at c.write_digits.ensures.plain) (rw c.from.ensures at c.write_digits.ensures.digits)
    c.write_shown.ensures)

pub returns-in-Forever : goal.returns-in-Forever
returns-in-Forever g c = rw c.in-Forever.is c.write_shown-in-Forever.ensures
