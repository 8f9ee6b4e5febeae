use Rattle.std.proofs.Common.{◌+◌, ap, ◌∙◌, arith}
use Rattle.std.proofs.lemmas.List.{take_all}
use Rattle.std.specs.Str.Parse.{digits_value}
use Rattle.std.proofs.lemmas.Int.Digits.{digits_value_more}
use Rattle.std.proofs.lemmas.Str.Parse.{digits_value-take-le}
use Rattle.board_text.proofs.Numbers.{digit_there}
use Rattle.board_text.proofs.line_reader.number_of.Goals as goal

pub overflow_sub-digit : goal.overflow_sub-digit
overflow_sub-digit c = (digit_there c.args.digits.now c.loop-digit.digit-index c.loop-digit-test.true c.requires).0

pub returns-in_err-checked_mul : goal.returns-in_err-checked_mul
returns-in_err-checked_mul c =
    let there = digit_there c.args.digits.now c.loop-digit.digit-index c.loop-digit-test.true c.requires in
    let more = digits_value_more 10 c.args.digits.now c.loop-digit.digit-index c.loop-digit-test.true in
    let front = digits_value-take-le 10 c.args.digits.now (c.loop-digit.digit-index + 1) (omega arith) in
    let over = c.in_err-checked_mul.ensures in
    rw c.from_residual.ensures (omega (arith, more, front, over, c.loop-digit.invariant.so_far))

pub returns-in_err-number : goal.returns-in_err-number
returns-in_err-number c =
    let there = digit_there c.args.digits.now c.loop-digit.digit-index c.loop-digit-test.true c.requires in
    let more = digits_value_more 10 c.args.digits.now c.loop-digit.digit-index c.loop-digit-test.true in
    let front = digits_value-take-le 10 c.args.digits.now (c.loop-digit.digit-index + 1) (omega arith) in
    let over = c.in_err-number.ensures in
    rw c.from_residual-in_err-number.ensures
    (omega (arith, more, front, over, there, c.in_ok-checked_mul.ensures, c.loop-digit.invariant.so_far))

pub loop-digit-preserved : goal.loop-digit-preserved
loop-digit-preserved c =
    let there = digit_there c.args.digits.now c.loop-digit.digit-index c.loop-digit-test.true c.requires in
    let more = digits_value_more 10 c.args.digits.now c.loop-digit.digit-index c.loop-digit-test.true in
    record {
      fits = omega (arith, c.in_ok-number.ensures);
      so_far = omega (
        arith,
        more,
        there,
        c.in_ok-number.ensures,
        c.in_ok-checked_mul.ensures,
        c.loop-digit.invariant.so_far,
      );
    }

pub returns : goal.returns
returns c =
    let whole = ap (digits_value 10)
    (take_all c.loop-digit.digit-index c.args.digits.now (omega (arith, c.loop-digit-test.false))) in
    (c.loop-digit.invariant.fits, c.loop-digit.invariant.so_far ∙ whole)
