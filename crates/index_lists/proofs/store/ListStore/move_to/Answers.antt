use Rattle.std.proofs.Common.{sym, subst}
use Rattle.index_lists.specs.Lists.{IsFree, AreSame, node_unlinked}
use Rattle.index_lists.proofs.MovedNodes.{free-after, same-without, moved-same, free-at_none, in-at_some}
use Rattle.index_lists.proofs.store.ListStore.move_to.Goals as goal
use Rattle.index_lists.proofs.store.ListStore.move_to.Goals.{then-is_some, else-is_some}

pub unlink-requires-clause-stands : goal.unlink-requires-clause-stands
unlink-requires-clause-stands g c =
    in-at_some _ c.args.node c.home.result c.is_some.result c.home.ensures.home c.is_some.ensures
    c.if-is_some.true

pub push_back-requires-clause-free : goal.push_back-requires-clause-free
push_back-requires-clause-free g c =
    let state = g.Self.ListStore.state in
    elim c.if-is_some.branch [
      | then-is_some w ↦ subst (λ s. IsFree (state s) c.args.node) (sym w.self-is)
          (free-after _ _ c.args.node w.unlink.ensures.unlinked)
      | else-is_some w ↦ subst (λ s. IsFree (state s) c.args.node) (sym w.self-is)
          (free-at_none _ c.args.node c.home.result c.is_some.result c.home.ensures.home c.is_some.ensures
          w.if-is_some.false)
    ]

pub returns-clause-moved : goal.returns-clause-moved
returns-clause-moved g c =
    let state = g.Self.ListStore.state in
    moved-same (state c.args.self.now) _ _ c.args.node c.args.to (elim c.if-is_some.branch [
      | then-is_some w ↦ subst (λ s. AreSame (state s) (node_unlinked (state c.args.self.now) c.args.node))
          (sym w.self-is)
          w.unlink.ensures.unlinked
      | else-is_some w ↦ subst (λ s. AreSame (state s) (node_unlinked (state c.args.self.now) c.args.node))
          (sym w.self-is)
          (same-without _ c.args.node
          (free-at_none _ c.args.node c.home.result c.is_some.result c.home.ensures.home c.is_some.ensures
          w.if-is_some.false))
    ]) c.push_back.ensures.pushed
