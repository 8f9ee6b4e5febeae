use Rattle.std.proofs.Common.{◌∙◌, ◌∷◌, ◌++◌, arith}
use Rattle.std.specs.Fmt.{decimal}
use Rattle.board_text.proofs.Lines.{after, number_line_parts, number_line_number, number_line_end}
use Rattle.board_text.proofs.line_reader.LineReader.number_line.Goals as goal

pub returns-in_err-take-2 : goal.returns-in_err-take-2
returns-in_err-take-2 c =
    rw c.from_residual-in_err-take-2.ensures (λ n more in_range e.
    c.in_err-take-2.ensures.taken (decimal n ++ 10 ∷ more)
    (after c.args.word.now c.args.self.now c.take.new.self
    (32 ∷ (decimal n ++ 10 ∷ more)) c.in_ok-take.ensures.taken (e ∙ number_line_parts c.args.word.now n more)))

pub returns-in_err-n : goal.returns-in_err-n
returns-in_err-n c =
    rw c.from_residual-in_err-n.ensures (λ n more in_range e.
    c.in_err-n.ensures n (10 ∷ more) in_range (λ h. omega (arith, h.0))
    (number_line_number c.args.word.now n c.args.self.now c.take.new.self c.take-2.new.self more
    c.in_ok-take.ensures.taken c.in_ok-take-2.ensures.taken e))

pub returns-in_err-take-3 : goal.returns-in_err-take-3
returns-in_err-take-3 c =
    rw c.from_residual-in_err-take-3.ensures (λ n more in_range e.
    c.in_err-take-3.ensures.taken more
    (number_line_end c.args.word.now c.in_ok-n.n n c.args.self.now c.take.new.self c.take-2.new.self c.number.new.self
    more c.in_ok-take.ensures.taken c.in_ok-take-2.ensures.taken c.in_ok-n.ensures.1 c.in_ok-n.ensures.2
    (omega (arith, c.in_ok-n.ensures.0.1)) (omega (arith, in_range.1)) e).1)
