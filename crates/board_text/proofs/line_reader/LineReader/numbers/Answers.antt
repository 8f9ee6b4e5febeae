use Rattle.std.proofs.Common.{◌≡◌, ◌++◌, take, arith}
use Rattle.std.specs.Fmt.{decimal}
use Rattle.std.proofs.lemmas.List.{length-take}
use Rattle.board_text.proofs.Lines.{continues, same_rest}
use Rattle.board_text.proofs.line_reader.LineReader.numbers.Goals as goal

pub returns-in_err-take : goal.returns-in_err-take
returns-in_err-take c =
    rw c.from_residual.ensures (λ ns more are no_more e.
    let i = c.loop-number.number-index in
    let xs = c.loop-number.numbers in
    let k = continues _ c.args.bound (take i xs) ns c.args.self.now c.loop-number.self more
    (omega arith) c.loop-number.invariant.0 c.loop-number.invariant.1 (omega (arith, length-take i xs))
    (λ h. c.loop-number.invariant.2 (omega (arith, length-take i xs, h))) are no_more e in
    c.in_err-take.ensures.taken (decimal k.number ++ k.tail) k.spelled)

pub returns-in_err-number : goal.returns-in_err-number
returns-in_err-number c =
    rw c.from_residual-in_err-number.ensures (λ ns more are no_more e.
    let i = c.loop-number.number-index in
    let xs = c.loop-number.numbers in
    let k = continues _ c.args.bound (take i xs) ns c.args.self.now c.loop-number.self more
    (omega arith) c.loop-number.invariant.0 c.loop-number.invariant.1 (omega (arith, length-take i xs))
    (λ h. c.loop-number.invariant.2 (omega (arith, length-take i xs, h))) are no_more e in
    let next : c.take.new.self ≡ decimal k.number ++ k.tail =
    same_rest c.loop-number.self c.take.new.self
    (decimal k.number ++ k.tail) c.in_ok-take.ensures.taken k.spelled in
    c.in_err-number.ensures k.number k.tail (omega arith, omega (arith, k.in_range, c.from.ensures)) k.no_digit next)
