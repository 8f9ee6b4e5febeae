use Rattle.std.proofs.Common.{refl, subst}
use Rattle.std.proofs.lemmas.Bool.{lt-ltb, ltb-true}
use Rattle.gap_values.specs.BestOfGap.{IsBestOfGap}
use Rattle.gap_values.proofs.LeadingBelow.{best-below, below-best, lasting-best}
use Rattle.gap_values.proofs.value_table.ValueTable.leads_below.Goals as goal

pub returns-in_default : goal.returns-in_default
returns-in_default g c = (
  λ _ label answers. absurd (rw c.in_default.is at c.best_answer.ensures label answers),
  λ _. refl,
)

pub returns-in-Finite : goal.returns-in-Finite
returns-in-Finite g c =
    let b = c.args.board.now in
    let gap = c.args.gap.now in
    let is = subst (IsBestOfGap b gap) c.in-Some.is c.best_answer.ensures in (
      λ less. best-below b gap c.args.number c.in-Some.best is c.in-Finite.depth c.in-Finite.is
          (ltb-true c.in-Finite.depth c.args.number less),
      λ below. lt-ltb c.in-Finite.depth c.args.number
          (below-best b gap c.args.number c.in-Some.best is c.in-Finite.depth c.in-Finite.is below),
    )

pub returns-in-Forever : goal.returns-in-Forever
returns-in-Forever g c =
    let b = c.args.board.now in
    let gap = c.args.gap.now in
    let is = subst (IsBestOfGap b gap) c.in-Some.is c.best_answer.ensures in (
      λ less. absurd cc,
      λ below. absurd (lasting-best b gap c.args.number c.in-Some.best is c.in-Forever.is below),
    )
