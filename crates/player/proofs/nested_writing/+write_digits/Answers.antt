use Rattle.std.proofs.Common.{◌-◌, ◌^◌, ℕ, ap, ◌∙◌, sym, append-nil, ◌++◌, string_bytes, arith}
use Rattle.std.proofs.Math.Nat.{one-le-pow}
use Rattle.std.proofs.lemmas.Result.{on_ok_weaker}
use Rattle.nested_cycles.proofs.Cited.{words_fit}
use Rattle.player.proofs.NestedTexts.{no_digits, first_digit}
use Rattle.player.proofs.nested_writing.+write_digits.Goals as goal

pub returns-then-count-eq0 : goal.returns-then-count-eq0
returns-then-count-eq0 t c =
    sym (append-nil (string_bytes c.args.text.now))
    ∙ ap (λ l. string_bytes c.args.text.now ++ l) (sym (no_digits c.args.count c.args.number (omega arith)))

pub pow-size-requires : goal.pow-size-requires
pow-size-requires t c = words_fit _ (omega arith)

pub nonzero_div-number : goal.nonzero_div-number
nonzero_div-number t c = rw c.pow-size.ensures (one-le-pow (c.from.result - 1) 3 (omega arith))

pub nonzero_rem-number : goal.nonzero_rem-number
nonzero_rem-number t c = rw c.pow-size.ensures (one-le-pow (c.from.result - 1) 3 (omega arith))

pub returns : goal.returns
returns t c =
    on_ok_weaker c.write_digits.result (λ others.
    first_digit c.args.count (c.args.count - 1) c.args.number c.pow-size.result _ _ _ (omega arith)
    (c.pow-size.ensures ∙ ap (λ (n : ℕ). 3 ^ n)
    (omega arith)) c.in_ok-write.ensures.bytes others) c.write_digits.ensures
