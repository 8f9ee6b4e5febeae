use Rattle.std.proofs.Common.{[], ◌∷◌, ◌++◌, ap, ◌∙◌, sym, subst, ◌≡◌, ◌<◌, ◌↔◌, true}
use Rattle.board_text.specs.PlainBoard.{PlainBoard}
use Rattle.board_text.specs.Domination.{has_bit}
use Rattle.classes.proofs.LongerLists.{rows-begin}
use Rattle.classes.proofs.class_numbers.ClassNumbers.answers.Goals as goal

pub loop-count-init : goal.loop-count-init
loop-count-init c =
    rows-begin c.args.self.now c.push.new.self.items c.below.result
    (c.in_ok-push.ensures.items ∙ ap (λ l. l ++ c.below.result ∷ []) c.new-rows.ensures.items)
    (λ x small. subst (λ (b : PlainBoard). (has_bit c.below.result x ≡ true) ↔ (x < b.labels)) (sym c.requires)
    (subst (λ n. (has_bit c.below.result x ≡ true) ↔ (x < n)) c.labels.ensures.value (c.below.ensures x small)))
