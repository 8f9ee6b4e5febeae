use Rattle.std.proofs.Common.{[], sym, ◌∙◌, arith, append-nil}
use Rattle.std.proofs.lemmas.Fmt.{decimal_is_IsNumeral}
use Rattle.board_text.proofs.Cited.{digits_split}
use Rattle.player.proofs.line_meaning.whole_number.Goals as goal

pub returns-in_err-number : goal.returns-in_err-number
returns-in_err-number c = rw c.from_residual.ensures (λ number small same.
    c.in_err-number.ensures number [] (omega arith, omega arith) (λ h. omega (arith, h.0, h.1))
    (c.new-text.ensures ∙ same ∙ sym (append-nil _)))

pub returns-else-is_empty : goal.returns-else-is_empty
returns-else-is_empty c = λ number small same.
    let found = c.in_ok-number.ensures in
    let split = digits_split _ _ _ [] (decimal_is_IsNumeral c.in_ok-number.number (omega (arith, found.0.1))).0.1
    (decimal_is_IsNumeral number (omega (arith, small))).0.1
    found.2 (λ h. omega (arith, h.0, h.1)) (sym found.1 ∙ c.new-text.ensures ∙ same ∙ sym (append-nil _)) in
    let impossible = c.if-is_empty.ensures.1 split.1 in
    cc
