use Rattle.std.proofs.Common.{◌<◌, ◌^◌, ℕ, bit_and, get_or, arith, ap, inl, inr, rules, subst, sym}
use Rattle.std.specs.Int.{bit_not, w64}
use Rattle.std.proofs.lemmas.Bool.{cases_eq}
use Rattle.positions.proofs.LabelBits.{one_of, has_bit-one, made-more, made-none}
use Rattle.positions.proofs.label_set.Labels.without.Goals as goal

pub loop-number-init : goal.loop-number-init
loop-number-init g c = (
  made-none (one_of c.self.inside.words c.other.inside.words) c.self.inside.words,
  λ k low. absurd (omega arith),
)

pub loop-number-preserved : goal.loop-number-preserved
loop-number-preserved g c =
    let l = c.loop-number in
    let here : get_or c.other.inside.words l.number 0 < 2 ^ 64 = search rules in (
      made-more (one_of c.self.inside.words c.other.inside.words) c.self.inside.words l.words l.number _
          (omega (arith, c.self.told, c.loop-number-test.true))
          (ap (λ (w : ℕ). bit_and w (bit_not w64 (get_or c.other.inside.words l.number 0)))
          (l.invariant.0.behind l.number (omega arith)))
          l.invariant.0,
      λ k low. elim (cases_eq k l.number) [
        | inl same ↦ subst (λ j. get_or c.other.inside.words j 0 < 2 ^ 64) (sym same) here
        | inr other ↦ l.invariant.1 k (omega (arith, low, other))
      ],
    )

pub returns : goal.returns
returns g c = rw (← c.self.view_is, ← c.other.view_is) (λ x small. has_bit-one c.self.inside.words c.other.inside.words
    c.loop-number.words c.loop-number.number
    (omega (arith, c.self.told, c.loop-number.auto.number-end, c.loop-number-test.false)) c.loop-number.invariant.1
    c.loop-number.invariant.0 x)
