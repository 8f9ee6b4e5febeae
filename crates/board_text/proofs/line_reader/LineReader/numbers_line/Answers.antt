use Rattle.std.proofs.Common.{◌∷◌, arith}
use Rattle.board_text.proofs.Lines.{numbers_line_numbers, numbers_line_end}
use Rattle.board_text.proofs.line_reader.LineReader.numbers_line.Goals as goal

pub returns-in_err-numbers : goal.returns-in_err-numbers
returns-in_err-numbers c =
    rw c.from_residual-in_err-numbers.ensures (λ ns more are e.
    c.in_err-numbers.ensures ns (10 ∷ more) are (λ h. omega (arith, h.0))
    (numbers_line_numbers c.args.word.now ns c.args.self.now c.take.new.self more c.in_ok-take.ensures.taken e))

pub returns-in_err-take-2 : goal.returns-in_err-take-2
returns-in_err-take-2 c =
    rw c.from_residual-in_err-take-2.ensures (λ ns more are e.
    let t = c.in_ok-numbers.ensures in
    c.in_err-take-2.ensures.taken more
    (numbers_line_end _ c.args.bound c.args.word.now c.numbers.new.numbers ns c.args.self.now c.take.new.self
    c.numbers.new.self more (omega arith) c.in_ok-take.ensures.taken t.1 t.0 t.2 are e).1)
