use Rattle.std.proofs.Common.{◌≡◌, ◌≢◌, ◌-◌, ◌<◌, ◌≤◌, ℕ, List, length, get_or, subst}
use Rattle.gap_values.proofs.ClassCounts.{is-trimmed}
use Rattle.gap_values.proofs.sizes.Sizes.trim.Goals as goal

pub returns-clause-finite : goal.returns-clause-finite
returns-clause-finite c =
    let list = c.deref.ensures.value in
    let values : ℕ = c.values_in-values.result in
    is-trimmed values c.args.self.now.finite.items c.truncate.new.self.items c.truncate.ensures.items
    (subst (λ (l : List ℕ). values ≤ length l) list c.values_in-values.ensures.within)
    (subst (λ (l : List ℕ). 0 < values → get_or l (values - 1) 0 ≢ 0) list c.values_in-values.ensures.last)
    (subst (λ (l : List ℕ). (value : ℕ) → values ≤ value → value < length l → get_or l value 0 ≡ 0) list
    c.values_in-values.ensures.zeros)
