use Rattle.std.proofs.Common.{length, sym, arith}
use Rattle.std.proofs.lemmas.Bool.{eqb-true, eqb-false}
use Rattle.board_text.proofs.Numbers.{none_written, zero_leads, spelled}
use Rattle.board_text.proofs.line_reader.value.Goals as goal
use Rattle.board_text.proofs.line_reader.value.Goals.{else-digits-gt1-via-then-digits-gt1+else-digits-eq48}
use Rattle.board_text.proofs.line_reader.value.Goals.{else-digits-gt1-via-else-digits-gt1}

pub returns-then-is_empty : goal.returns-then-is_empty
returns-then-is_empty c =
    none_written c.args.digits.now (eqb-true (length c.args.digits.now) 0 (sym c.if-is_empty.ensures))

pub returns-then-digits-eq48 : goal.returns-then-digits-eq48
returns-then-digits-eq48 c = zero_leads c.args.digits.now c.if-digits-gt1.true c.if-digits-eq48.true

pub returns : goal.returns
returns c =
    spelled c.args.digits.now c.number_of.result c.requires
    (omega (arith, eqb-false (length c.args.digits.now) 0 (sym c.if-is_empty.ensures)))
    (λ h. elim c.else-digits-gt1.branch [
      | else-digits-gt1-via-then-digits-gt1+else-digits-eq48 w ↦ w.if-digits-eq48.false h.1
      | else-digits-gt1-via-else-digits-gt1 w ↦ omega (arith, w.if-digits-gt1.false, h.0)
    ])
    c.number_of.ensures
