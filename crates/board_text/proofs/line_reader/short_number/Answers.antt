use Rattle.std.proofs.Common.{◌+◌, ◌*◌, ◌∷◌, ◌<◌, ap, ◌∙◌, rules, arith}
use Rattle.board_text.proofs.WrittenNumbers.{decimal_one, decimal_two, decimal_three}
use Rattle.board_text.proofs.line_reader.short_number.Goals as goal

pub returns-in_default : goal.returns-in_default
returns-in_default c =
    let first = c.in_ok-first.ensures in (
      omega (arith, first.0),
      rw (decimal_one c.in_ok-first.first first.0) first.1,
      c.in_default.ensures,
    )

pub returns-in_default-split_digit : goal.returns-in_default-split_digit
returns-in_default-split_digit c =
    let first = c.in_ok-first.ensures in
    let second = c.in-Some.ensures in (
      omega (arith, first.0, second.0),
      rw (
        decimal_two c.in_ok-first.first c.in-Some.second (omega (arith, c.if-first-eq0.false)) first.0 second.0,
        first.1,
      ) (ap (λ ds. (48 + c.in_ok-first.first) ∷ ds) second.1),
      c.in_default-split_digit.ensures,
    )

pub returns : goal.returns
returns c =
    let first = c.in_ok-first.ensures in
    let second = c.in-Some.ensures in
    let third = c.in-Some-split_digit.ensures in
    let some : 0 < c.in_ok-first.first = omega (arith, c.if-first-eq0.false) in
    let tens = 10 * c.in_ok-first.first + c.in-Some.second in (
      omega (arith, first.0, second.0, third.0),
      rw (
        decimal_three tens c.in-Some-split_digit.third (omega (arith, some)) (omega (arith, first.0, second.0)) third.0,
        decimal_two c.in_ok-first.first c.in-Some.second some first.0 second.0,
        first.1,
      ) (ap (λ ds. (48 + c.in_ok-first.first) ∷ ds) (second.1 ∙ ap (λ ds. (48 + c.in-Some.second) ∷ ds) third.1)),
      search rules,
    )
