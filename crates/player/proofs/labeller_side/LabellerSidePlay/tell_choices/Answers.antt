use Rattle.std.proofs.Common.{codes, refl, subst, ◌++◌}
use Rattle.std.specs.Fmt.{decimal}
use Rattle.player.specs.Prompts.{label_choices, listed_labels}
use Rattle.console.specs.Showing.{IsMore, shown}
use Rattle.player.proofs.ChoiceLines.{are_choices, five}
use Rattle.console.proofs.Cited.{then_shown}
use Rattle.player.proofs.labeller_side.LabellerSidePlay.tell_choices.Goals as goal

pub returns : goal.returns
unfolding shown
returns g c =
    let known = g.E.Sink.contents in
    let failed = g.E.Sink.has_failed in
    let asked = c.self.inside.asked in
    let listed = c.tell_legal_labels.ensures in
    let labels = listed_labels listed.0 in
    let first = codes "labels that pebble " in
    let end = codes "; type one, or quit" in
    let take = codes " can take:" in
    let digits = rw c.from.ensures at c.write_digits.ensures.digits in
    let plain = rw c.from.ensures at c.write_digits.ensures.plain in
    let e0 = c.args.errors.now in
    let e1 = c.write_shown.new.errors in
    let e2 = c.write_digits.new.errors in
    let e3 = c.write_shown-2.new.errors in
    let e4 = c.tell_legal_labels.new.errors in
    let e5 = c.write_shown-3.new.errors in
    let last = then_shown known failed e3 e4 e5 labels end listed.3 listed.2 c.write_shown-3.ensures in
    let later = then_shown known failed e2 e3 e5 take (labels ++ end) refl c.write_shown-2.ensures last in
    let after = then_shown known failed e1 e2 e5 (decimal asked) (take ++ (labels ++ end)) plain digits later in (
      label_choices asked listed.0,
      are_choices _ _ c.self.view_is asked listed.0 c.self.invariant.best listed.1,
      subst (λ words. IsMore known failed e0 e5 (shown words)) (five first (decimal asked) take labels end)
          (then_shown known failed e0 e1 e5 first (decimal asked ++ (take ++ (labels ++ end))) refl
          c.write_shown.ensures after),
    )
