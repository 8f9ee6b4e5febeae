-- The line with the number of rows that were checked.
use Rattle.std.proofs.Common.{◌≡◌, ◌≢◌, ◌∙◌, ◌++◌, ℕ, ap, codes, sym}
use Rattle.std.proofs.lemmas.Bool.{eq-eqb, ne_eqb}
use Rattle.std.proofs.lemmas.List.{append_assoc}
use Rattle.std.specs.Fmt.{decimal}
use Rattle.std.specs.Prelude.{if◌then◌else◌}
use Rattle.board_text.specs.LineForms.{with_line_feed}
use Rattle.serving.specs.Telling.{rows_line}

pub one_row : (rows : ℕ) → rows ≡ 1 → codes "1 row was checked\n" ≡ rows_line rows
one_row rows one =
    sym (ap (λ b. with_line_feed (if b then codes "1 row was checked" else decimal rows ++ codes " rows were checked"))
    (eq-eqb rows 1 one))

pub many_rows : (rows : ℕ) → rows ≢ 1 → decimal rows ++ codes " rows were checked\n" ≡ rows_line rows
many_rows rows other =
    sym (append_assoc (decimal rows) (codes " rows were checked") (codes "\n"))
    ∙ sym (ap (λ b. with_line_feed (if b then codes "1 row was checked"
    else decimal rows ++ codes " rows were checked")) (ne_eqb rows 1 other))
