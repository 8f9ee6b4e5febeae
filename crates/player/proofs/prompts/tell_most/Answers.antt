use Rattle.std.proofs.Common.{codes, ◌++◌, refl}
use Rattle.std.specs.Fmt.{decimal}
use Rattle.console.specs.Showing.{shown}
use Rattle.console.proofs.Cited.{plain_both, then_more}
use Rattle.player.proofs.prompts.tell_most.Goals as goal

pub returns-in-Finite-clause-words : goal.returns-in-Finite-clause-words
returns-in-Finite-clause-words g c =
    let known = g.E.Sink.contents in
    let failed = g.E.Sink.has_failed in
    let first = codes "at most " in
    let last = codes " more can be answered; " in
    let digits = rw c.from.ensures at c.write_digits.ensures.digits in
    rw c.in-Finite.is (then_more known failed c.args.errors.now c.write_digits.new.errors
    c.write_more-in-Finite.new.writer
    (first ++ decimal c.in-Finite.number) last
    (then_more known failed c.args.errors.now c.write_more.new.writer c.write_digits.new.errors first
    (decimal c.in-Finite.number) c.write_more.ensures digits) c.write_more-in-Finite.ensures)

pub returns-in-Finite-clause-plain : goal.returns-in-Finite-clause-plain
unfolding shown
returns-in-Finite-clause-plain g c =
    let first = codes "at most " in
    let last = codes " more can be answered; " in
    rw c.in-Finite.is (plain_both (first ++ decimal c.in-Finite.number) last
    (plain_both first (decimal c.in-Finite.number) refl (rw c.from.ensures at c.write_digits.ensures.plain)) refl)

pub returns-in-Forever-clause-words : goal.returns-in-Forever-clause-words
returns-in-Forever-clause-words g c = rw c.in-Forever.is c.write_more-in-Forever.ensures

pub returns-in-Forever-clause-plain : goal.returns-in-Forever-clause-plain
unfolding shown
returns-in-Forever-clause-plain g c = rw c.in-Forever.is refl
