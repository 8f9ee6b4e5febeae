use Rattle.std.proofs.Common.{arith}
use Rattle.console.proofs.ShownTexts.{plain_decimal}
use Rattle.console.proofs.showing.write_digits.Goals as goal

pub returns-clause-plain : goal.returns-clause-plain
returns-clause-plain g c = plain_decimal c.args.number (omega (arith, c.ranges.number))
