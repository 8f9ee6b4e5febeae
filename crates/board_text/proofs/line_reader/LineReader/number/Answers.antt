use Rattle.std.proofs.Common.{arith}
use Rattle.std.specs.Fmt.{decimal}
use Rattle.std.proofs.lemmas.Fmt.{decimal_is_IsNumeral}
use Rattle.board_text.proofs.NumeralLemmas.{number_taken}
use Rattle.board_text.proofs.line_reader.LineReader.number.Goals as goal

pub returns-in_err-numeral : goal.returns-in_err-numeral
returns-in_err-numeral c =
    rw c.from_residual.ensures (λ n more range no_more. c.in_err-numeral.ensures (decimal n) more
    (decimal_is_IsNumeral n (omega (arith, range.1))).0)

pub returns : goal.returns
returns c =
    let found = c.in_ok-numeral.ensures in
    number_taken c.args.low c.args.high c.args.self.now c.numeral.new.self found.0 c.in_ok-numeral.field-0
    c.within.result (omega arith) found.1 found.2 found.3 found.4 c.within.ensures
