use Rattle.std.proofs.Common.{ℕ, List, ◌++◌, string_bytes, ap, ◌∙◌, inl, inr, arith}
use Rattle.board_text.proofs.WrittenNumbers.{digits_pushed, on_ok}
use Rattle.board_text.proofs.writing.write_number.Goals as goal
use Rattle.board_text.proofs.writing.write_number.Goals.{then-number-ge100+in_ok-push_digit, else-number-ge100}
use Rattle.board_text.proofs.writing.write_number.Goals.{then-number-ge10+in_ok-push_digit-2, else-number-ge10}

pub returns : goal.returns
returns c =
    let n = c.args.number in
    on_ok c.push_digit-2.result (digits_pushed n (string_bytes c.args.text.now) (string_bytes c.push.new.self)
    (string_bytes c.if-number-ge100.text) (string_bytes c.if-number-ge10.text) (string_bytes c.push_digit-2.new.text)
    (omega (arith, c.if-number-ge1000.false))
    (c.in_ok-push.ensures.bytes ∙ ap (λ (ds : List ℕ). string_bytes c.args.text.now ++ ds)
    (c.in_ok-push.ensures.ascii (omega arith)))
    (elim c.if-number-ge100.branch [
      | then-number-ge100+in_ok-push_digit w ↦
          inl (omega (arith, w.if-number-ge100), ap string_bytes w.text-is ∙ w.in_ok-push_digit.ensures)
      | else-number-ge100 w ↦ inr (omega (arith, w.if-number-ge100), ap string_bytes w.text-is)
    ])
    (elim c.if-number-ge10.branch [
      | then-number-ge10+in_ok-push_digit-2 w ↦
          inl (omega (arith, w.if-number-ge10), ap string_bytes w.text-is ∙ w.in_ok-push_digit-2.ensures)
      | else-number-ge10 w ↦ inr (omega (arith, w.if-number-ge10), ap string_bytes w.text-is)
    ])) c.push_digit-2.ensures
