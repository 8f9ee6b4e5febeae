use Rattle.std.proofs.Common.{◌≡◌, ◌-◌, ◌<◌, ◌∙◌, ◌++◌, List, ℕ, length, sym, subst, ap, arith}
use Rattle.std.specs.List.{filter}
use Rattle.std.proofs.lemmas.Result.{IfOk-weaker}
use Rattle.index_lists.specs.Lists.{times}
use Rattle.graphs.specs.Graph.{is_struck}
use Rattle.graphs.specs.Numbered.{graph_of}
use Rattle.solver.specs.Inside.Stage.{PlainStage, filed_at}
use Rattle.solver.proofs.FiledRanks.{filed-shown}
use Rattle.solver.proofs.stage.Stage.due.Given
use Rattle.solver.proofs.stage.Stage.due.Goals as goal
use Rattle.solver.proofs.stage.Stage.due.Goals.{After-deref}

pub append_list-requires-clause-room : goal.append_list-requires-clause-room
append_list-requires-clause-room g c =
    let none = ap length c.in_ok-filed.ensures.items in
    omega (arith, none, c.in_ok-filed.ensures.capacity, c.len.ensures.len)

-- the appended configurations are the store's list
copied : (g : Given.Over) (c : After-deref g)
    → c.deref.result.now ≡ (g.S.ListStore.state c.self.inside.buckets).list (c.self.inside.value - 1)
copied g c = c.deref.ensures.value ∙ c.append_list.ensures.appended
    ∙ ap (λ (xs : List ℕ). xs ++ (g.S.ListStore.state c.self.inside.buckets).list
    (c.self.inside.value - 1)) c.in_ok-filed.ensures.items

pub answers_among-requires : goal.answers_among-requires
answers_among-requires g c = λ rank some.
    let stored = c.self.invariant.2 in
    let low = stored.are_lists.below (c.self.inside.value - 1) rank
    (subst (λ (xs : List ℕ). 0 < times rank xs) (copied g (goal.at.answers_among-requires g c).After-deref) some) in
    let size = ap (λ (v : PlainStage). (graph_of v.game).configurations) c.self.view_is in
    omega (arith, low, stored.nodes_is, size)

pub returns : goal.returns
returns g c =
    let test = is_struck (graph_of c.args.self.now.game) in
    let shown = filed-shown _ _ _ _ _ _ _ c.self.view_is c.self.invariant.2.are_lists (c.self.inside.value - 1) in
    let bucket : c.deref.result.now ≡ filed_at c.args.self.now (c.args.self.now.value - 1) =
    copied g (goal.at.returns g c).After-deref ∙ sym shown
    ∙ ap (λ (v : PlainStage). filed_at c.args.self.now (v.value - 1)) c.self.view_is in
    IfOk-weaker c.answers_among.result _ _ (λ found is. is ∙ ap (filter test) bucket) c.answers_among.ensures
