use Rattle.std.proofs.Common.{◌≡◌, ◌-◌, ◌∙◌, ◌++◌, List, ℕ, length, sym, subst, ap, arith}
use Rattle.index_lists.proofs.Cited.{fits}
use Rattle.solver.specs.Inside.Stage.{PlainStage, stage_of, filed_at, strikes_copied}
use Rattle.solver.proofs.FiledRanks.{list-shown}
use Rattle.solver.proofs.stage.Stage.take_bucket.Goals as goal

pub append_list-requires-clause-room : goal.append_list-requires-clause-room
append_list-requires-clause-room g c =
    let stored = c.self.invariant.2 in
    let most = fits _ stored.are_lists (c.self.inside.value - 1) in
    let none = ap length c.clear.ensures.items in
    omega (arith, most, none, stored.nodes_is, c.self.invariant.3, c.clear.ensures.capacity)

pub returns : goal.returns
returns g c =
    let s = c.self.inside in
    let stored = g.S.ListStore.state s.buckets in
    let was : PlainStage = stage_of s.graph s.value s.values.items s.counts.items stored s.strikes.items in
    let strikes : c.append_list.new.to.items ≡ filed_at was (s.value - 1) =
    c.append_list.ensures.appended ∙ ap (λ (xs : List ℕ). xs ++ stored.list (s.value - 1)) c.clear.ensures.items
    ∙ sym (list-shown stored c.self.invariant.2.are_lists (s.value - 1)) in
    subst (λ (v : PlainStage). stage_of s.graph s.value s.values.items s.counts.items stored c.append_list.new.to.items
    ≡ strikes_copied v)
    c.self.view_is (ap (stage_of s.graph s.value s.values.items s.counts.items stored) strikes)
