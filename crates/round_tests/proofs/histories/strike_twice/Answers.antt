use Rattle.std.proofs.Common.{◌++◌, ◌∷◌, [], ℕ, List, ap, ◌∙◌, arith}
use Rattle.retro_core.specs.declared.step.Seen.{Seen}
use Rattle.retro_core.specs.declared.step.Seen.TheVariants as seen
use Rattle.round_tests.proofs.histories.strike_twice.Goals as goal

pub returns-clause-order : goal.returns-clause-order
returns-clause-order g c told =
    let one = c.strike.ensures.struck.stands in
    let two = c.strike-2.ensures.struck.stands in
    let second = seen.Struck c.strike-2.result.config c.strike-2.result.closed in (
      one.index,
      two.index,
      seen.Struck c.strike.result.config c.strike.result.closed,
      second,
      omega (arith, one.since_is, two.not_before),
      two.made_is ∙ ap (λ (made : List (ℕ × Seen)). made ++ (two.index, second) ∷ []) one.made_is,
    )
