use Rattle.std.proofs.Common.{arith, rules, refl}
use Rattle.std.specs.Fmt.{decimal}
use Rattle.std.proofs.lemmas.Fmt.{decimal_is_IsNumeral}
use Rattle.board_text.proofs.line_reader.LineReader.numeral.Goals as goal

pub returns-in-Some : goal.returns-in-Some
returns-in-Some c =
    let found = c.in-Some.ensures in (
      decimal c.in-Some.n,
      (decimal_is_IsNumeral c.in-Some.n (omega (arith, found.0))).0,
      search rules,
      found.2,
      (omega (arith, found.0), refl),
    )
