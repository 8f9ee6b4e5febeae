use Rattle.std.proofs.Common.{◌∙◌, ◌≤◌, List, ℕ, slice_get, ap, sym, arith}
use Rattle.solver.proofs.FiledRanks.{filed-shown}
use Rattle.solver.proofs.stage.Stage.first_filed.Goals as goal

pub returns-then-value-configurations : goal.returns-then-value-configurations
returns-then-value-configurations g c =
    let stored = c.self.invariant.2 in
    let beyond : (g.S.ListStore.state c.self.inside.buckets).lists ≤ c.args.value = omega
    (arith, stored.lists_is, c.configurations.ensures.value, c.if-value-configurations.true) in
    sym (ap (λ (xs : List ℕ). slice_get xs 0) (filed-shown _ _ _ _ _ _ _ c.self.view_is stored.are_lists c.args.value
    ∙ stored.are_lists.beyond c.args.value beyond))

pub returns : goal.returns
returns g c = c.first.ensures.first
    ∙ ap (λ (xs : List ℕ). slice_get xs 0)
    (sym (filed-shown _ _ _ _ _ _ _ c.self.view_is c.self.invariant.2.are_lists c.args.value))
