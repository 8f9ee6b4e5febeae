use Rattle.std.proofs.Common.{codes, ◌-◌, ◌++◌, refl, subst}
use Rattle.std.specs.Fmt.{decimal}
use Rattle.console.specs.Showing.{IsMore, shown}
use Rattle.player.proofs.ChoiceLines.{many_pebbles, one_pebble}
use Rattle.console.proofs.Cited.{then_shown}
use Rattle.player.proofs.prompts.tell_pebble_choices.Goals as goal

pub returns-then-pebbles-eq1 : goal.returns-then-pebbles-eq1
returns-then-pebbles-eq1 g c =
    subst (λ words. IsMore g.E.Sink.contents g.E.Sink.has_failed c.args.errors.now c.write_shown.new.errors
    (shown words))
    (one_pebble c.args.pebbles c.if-pebbles-eq1.true) c.write_shown.ensures

pub returns : goal.returns
unfolding shown
returns g c =
    let known = g.E.Sink.contents in
    let failed = g.E.Sink.has_failed in
    let e0 = c.args.errors.now in
    let e1 = c.write_shown-2.new.errors in
    let e2 = c.write_digits.new.errors in
    let e3 = c.write_shown-3.new.errors in
    let last = codes ", or quit" in
    let digits = rw c.from.ensures at c.write_digits.ensures.digits in
    let plain = rw c.from.ensures at c.write_digits.ensures.plain in
    let after = then_shown known failed e1 e2 e3 (decimal (c.args.pebbles - 1)) last plain digits
    c.write_shown-3.ensures in
    subst (λ words. IsMore known failed e0 e3 (shown words)) (many_pebbles c.args.pebbles c.if-pebbles-eq1.false)
    (then_shown known failed e0 e1 e3 (codes "type a pebble, 0 to ") (decimal (c.args.pebbles - 1) ++ last) refl
    c.write_shown-2.ensures after)
