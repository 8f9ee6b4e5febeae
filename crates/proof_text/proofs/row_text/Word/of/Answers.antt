use Rattle.std.proofs.Common.{arith}
use Rattle.proof_text.proofs.GatheredWords.{word_one, word_two, word_three}
use Rattle.proof_text.proofs.row_text.Word.of.Goals as goal

pub returns-then-number-lt10 : goal.returns-then-number-lt10
returns-then-number-lt10 c = word_one c.args.number (omega (arith, c.if-number-lt10.true))

pub returns-then-number-lt100 : goal.returns-then-number-lt100
returns-then-number-lt100 c =
    word_two c.args.number (omega (arith, c.if-number-lt10.false)) (omega (arith, c.if-number-lt100.true))

pub returns : goal.returns
returns c = word_three c.args.number (omega (arith, c.if-number-lt100.false)) (omega (arith, c.requires))
