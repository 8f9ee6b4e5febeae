use Rattle.std.proofs.Common.{codes, ◌++◌, subst, sym}
use Rattle.std.proofs.lemmas.Bool.{ne_eqb}
use Rattle.std.specs.Prelude.{if◌then◌else◌}
use Rattle.std.specs.Fmt.{decimal}
use Rattle.console.specs.Showing.{IsMore, shown}
use Rattle.console.proofs.Cited.{then_shown}
use Rattle.player.proofs.prompts.tell_requests.Goals as goal

pub returns : goal.returns
returns g c =
    let known = g.E.Sink.contents in
    let failed = g.E.Sink.has_failed in
    let number = c.args.number in
    let last = codes " requests" in
    subst (λ b. IsMore known failed c.args.errors.now c.write_shown-2.new.errors
    (shown (if b then codes "1 request" else decimal number ++ last))) (sym (ne_eqb number 1 c.if-number-eq1.false))
    (then_shown known failed c.args.errors.now c.write_digits.new.errors c.write_shown-2.new.errors (decimal number)
    last (rw c.from.ensures at c.write_digits.ensures.plain) (rw c.from.ensures at c.write_digits.ensures.digits)
    c.write_shown-2.ensures)
