use Rattle.std.proofs.Common.{◌∷◌, [], refl, subst, sym}
use Rattle.std.proofs.lemmas.Bool.{le-ltb, lt-ltb}
use Rattle.std.specs.Prelude.{if◌then◌else◌}
use Rattle.std.specs.Fmt.{decimal}
use Rattle.console.specs.Showing.{HasNoControl, IsMore, shown}
use Rattle.console.proofs.Cited.{plain_both, then_more}
use Rattle.player.specs.declared.prompts.TheConstants.{MOST_LISTED}
use Rattle.player.proofs.prompts.tell_label.Goals as goal

pub returns-then-count-lt-MOST_LISTED-clause-words : goal.returns-then-count-lt-MOST_LISTED-clause-words
returns-then-count-lt-MOST_LISTED-clause-words g c =
    let known = g.E.Sink.contents in
    let failed = g.E.Sink.has_failed in
    let label = c.args.label in
    let digits = rw c.from.ensures at c.write_digits.ensures.digits in
    subst (λ b. IsMore known failed c.args.errors.now c.write_digits.new.errors (if b then 32 ∷ decimal label else []))
    (sym (lt-ltb c.args.count MOST_LISTED c.if-count-lt-MOST_LISTED.true))
    (then_more known failed c.args.errors.now c.write_more.new.writer c.write_digits.new.errors (32 ∷ [])
    (decimal label) c.write_more.ensures digits)

pub returns-then-count-lt-MOST_LISTED-clause-plain : goal.returns-then-count-lt-MOST_LISTED-clause-plain
unfolding shown
returns-then-count-lt-MOST_LISTED-clause-plain g c =
    let label = c.args.label in
    subst (λ b. HasNoControl (if b then 32 ∷ decimal label else []))
    (sym (lt-ltb c.args.count MOST_LISTED c.if-count-lt-MOST_LISTED.true))
    (plain_both (32 ∷ []) (decimal label) refl (rw c.from.ensures at c.write_digits.ensures.plain))

pub returns-else-count-lt-MOST_LISTED-clause-plain : goal.returns-else-count-lt-MOST_LISTED-clause-plain
unfolding shown
returns-else-count-lt-MOST_LISTED-clause-plain g c =
    let label = c.args.label in
    subst (λ b. HasNoControl (if b then 32 ∷ decimal label else []))
    (sym (le-ltb c.args.count MOST_LISTED c.if-count-lt-MOST_LISTED.false)) refl
