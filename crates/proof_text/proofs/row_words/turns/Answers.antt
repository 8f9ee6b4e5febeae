use Rattle.std.proofs.Common.{refl, sym, ◌∙◌, inl, inr}
use Rattle.std.specs.Prelude.{codes}
use Rattle.proof_text.proofs.SpelledRows.{turns_star, turns_digits, taken_star, not_taken}
use Rattle.proof_text.proofs.row_words.turns.Goals as goal

pub returns-then-is_some : goal.returns-then-is_some
returns-then-is_some c = (
  codes "*",
  inr refl,
  taken_star c.take.result c.args.text.now c.take.new.self c.if-is_some.ensures c.take.ensures.taken,
  inr refl,
  turns_star c.args.claim c.always.result c.always.ensures,
)

pub returns : goal.returns
returns c =
    let same = not_taken c.take.result c.args.text.now c.take.new.self c.if-is_some.ensures c.take.ensures.none in
    let n = c.in_ok-numeral.ensures in (
      n.0,
      inl n.1,
      sym same ∙ n.2,
      inl n.3,
      turns_digits c.args.claim c.count.result n.0 c.in_ok-numeral.field-0 n.4 n.1 c.count.ensures,
    )
