use Rattle.std.proofs.Common.{[], ◌++◌, codes, refl, subst, sym}
use Rattle.std.proofs.lemmas.Bool.{le-ltb, lt-ltb}
use Rattle.std.specs.Prelude.{if◌then◌else◌}
use Rattle.std.specs.Fmt.{decimal}
use Rattle.console.specs.Showing.{HasNoControl, IsMore, shown}
use Rattle.console.proofs.Cited.{plain_both, then_more}
use Rattle.player.specs.declared.prompts.TheConstants.{MOST_LISTED}
use Rattle.player.proofs.prompts.tell_count.Goals as goal

pub returns-then-count-gt-MOST_LISTED-clause-words : goal.returns-then-count-gt-MOST_LISTED-clause-words
returns-then-count-gt-MOST_LISTED-clause-words g c =
    let known = g.E.Sink.contents in
    let failed = g.E.Sink.has_failed in
    let e0 = c.args.errors.now in
    let e1 = c.write_more.new.writer in
    let e2 = c.write_digits.new.errors in
    let e3 = c.write_more-then-count-gt-MOST_LISTED.new.writer in
    let e4 = c.write_digits-then-count-gt-MOST_LISTED.new.errors in
    let first = codes ", the first " in
    let most = decimal MOST_LISTED in
    let of = codes " of " in
    let count = decimal c.args.count in
    subst (λ b. IsMore known failed e0 e4 (if b then first ++ most ++ of ++ count else []))
    (sym (lt-ltb MOST_LISTED c.args.count c.if-count-gt-MOST_LISTED.true))
    (then_more known failed e0 e3 e4 (first ++ most ++ of) count
    (then_more known failed e0 e2 e3 (first ++ most) of
    (then_more known failed e0 e1 e2 first most c.write_more.ensures
    (rw c.from.ensures at c.write_digits.ensures.digits)) c.write_more-then-count-gt-MOST_LISTED.ensures)
    (rw c.from-then-count-gt-MOST_LISTED.ensures at c.write_digits-then-count-gt-MOST_LISTED.ensures.digits))

pub returns-then-count-gt-MOST_LISTED-clause-plain : goal.returns-then-count-gt-MOST_LISTED-clause-plain
unfolding shown
returns-then-count-gt-MOST_LISTED-clause-plain g c =
    let first = codes ", the first " in
    let most = decimal MOST_LISTED in
    let of = codes " of " in
    let count = decimal c.args.count in
    subst (λ b. HasNoControl (if b then first ++ most ++ of ++ count else []))
    (sym (lt-ltb MOST_LISTED c.args.count c.if-count-gt-MOST_LISTED.true))
    (plain_both (first ++ most ++ of) count
    (plain_both (first ++ most) of
    (plain_both first most refl (rw c.from.ensures at c.write_digits.ensures.plain)) refl)
    (rw c.from-then-count-gt-MOST_LISTED.ensures at c.write_digits-then-count-gt-MOST_LISTED.ensures.plain))

pub returns-else-count-gt-MOST_LISTED-clause-plain : goal.returns-else-count-gt-MOST_LISTED-clause-plain
unfolding shown
returns-else-count-gt-MOST_LISTED-clause-plain g c =
    subst (λ b. HasNoControl (if b then codes ", the first " ++ decimal MOST_LISTED ++ codes " of "
    ++ decimal c.args.count else [])) (sym (le-ltb MOST_LISTED c.args.count c.if-count-gt-MOST_LISTED.false)) refl
