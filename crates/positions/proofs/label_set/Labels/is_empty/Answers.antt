use Rattle.std.proofs.Common.{◌^◌, ◌<◌, get_or, refl, arith, rules}
use Rattle.positions.proofs.LabelBits.{none_set, some_set}
use Rattle.positions.proofs.label_set.Labels.is_empty.Goals as goal

pub returns-then-self-number-ne0 : goal.returns-then-self-number-ne0
returns-then-self-number-ne0 g c =
    let words = c.self.inside.words in
    let fits : get_or words c.loop-number.number 0 < 2 ^ 64 = search rules in
    rw (← c.self.view_is) (
      λ no. (let bad : ⊥ = cc in absurd bad),
      λ none. absurd (some_set words c.loop-number.number (omega (arith, c.loop-number-test.true, c.requires))
          (search rules) fits none),
    )

pub returns : goal.returns
returns g c = rw (← c.self.view_is) (
  λ yes x small. none_set c.self.inside.words c.loop-number.number
      (omega (arith, c.self.told, c.loop-number-test.false)) c.loop-number.invariant x,
  λ none. refl,
)
