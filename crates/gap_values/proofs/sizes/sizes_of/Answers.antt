use Rattle.std.proofs.Common.{ℕ, List, subst, sym}
use Rattle.gap_values.specs.Sizes.{AreValueCounts}
use Rattle.gap_values.specs.Inside.Counts.{IsAboveRounds}
use Rattle.gap_values.proofs.ClassCounts.{sizes-all, trimmed}
use Rattle.gap_values.proofs.sizes.sizes_of.Goals as goal

pub returns : goal.returns
returns g c =
    let b = c.args.numbers.now in
    let sizes = c.in_ok-sizes.sizes in
    let cut = c.trim.ensures.finite in
    rw c.trim.ensures.forever (subst (λ (l : List ℕ). AreValueCounts b l sizes.forever) (sym cut.is)
    (trimmed b sizes.finite.items sizes.forever _
    (sizes-all b c.args.rounds.now.words.items c.rounds_in-bound.result sizes c.requires.rounds.is_board
    c.requires.rounds.words
    (subst (λ (l : List ℕ). IsAboveRounds l c.rounds_in-bound.result) c.deref.ensures.value c.rounds_in-bound.ensures)
    c.in_ok-sizes.ensures) cut.within cut.last cut.zeros))
