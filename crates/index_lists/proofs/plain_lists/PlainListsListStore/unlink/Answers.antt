use Rattle.std.proofs.Common.{◌≡◌, ◌<◌, Some, refl, subst, sym, ap, ◌∙◌, arith, slice_get}
use Rattle.index_lists.specs.Lists.{times, without_node, IsHome}
use Rattle.index_lists.specs.Parts.{PlainParts}
use Rattle.index_lists.specs.Inside.Parts.{part, parts_of, lists_of_parts}
use Rattle.index_lists.proofs.Times.{cond_same}
use Rattle.index_lists.proofs.Places.{place-below}
use Rattle.index_lists.proofs.Parts.{fewer, plain-are, unlinked-cut, unlinked-plain, unlinked-list}
use Rattle.index_lists.proofs.plain_lists.PlainListsListStore.unlink.Goals as goal
use Rattle.index_lists.proofs.plain_lists.PlainListsListStore.unlink.Goals.{After-deref, After-index_of-index}

some : (c : After-deref)
    → 0 < times c.args.node (part (parts_of c.self.inside.lens.items c.self.inside.nodes.items) c.in-Some.home)
some c =
    let home = subst (λ (p : PlainParts). IsHome (lists_of_parts p) c.args.node c.in-Some.home)
    (sym c.self.view_is) c.in-Some.ensures.home in
    let one = home.times_is c.in-Some.home ∙ cond_same c.in-Some.home c.in-Some.home 1 0 refl in
    omega (arith, one)

stands : (c : After-index_of-index) → slice_get c.self.inside.nodes.items c.index_of-index.result ≡ Some c.args.node
stands c =
    subst (λ xs. slice_get xs c.index_of-index.result ≡ Some c.args.node) c.deref.ensures.value c.index_of-index.ensures

pub index_of-index-requires : goal.index_of-index-requires
index_of-index-requires c =
    let here = some (goal.at.index_of-index-requires c).After-deref in
    let all = fewer c.args.node c.in-Some.home (parts_of c.self.inside.lens.items c.self.inside.nodes.items) in
    let same = ap (times c.args.node) c.self.invariant.1.nodes_are in
    let read = ap (times c.args.node) c.deref.ensures.value in
    omega (arith, here, all, same, read)

pub remove-requires : goal.remove-requires
remove-requires c =
    let low = place-below c.index_of-index.result c.args.node c.self.inside.nodes.items
    (stands (goal.at.remove-requires c).After-index_of-index) in
    omega (arith, low, c.self.inside.nodes.ok.0)

pub invariant_of-self : goal.invariant_of-self
invariant_of-self c =
    let here = some (goal.at.invariant_of-self c).After-deref in
    let at = stands (goal.at.invariant_of-self c).After-index_of-index in
    let n = c.self.inside.node_count in
    let l = c.self.inside.list_count in
    rw c.remove.ensures.items (
      unlinked-plain n l c.self.invariant.0 c.self.invariant.1 c.args.node c.in-Some.home c.index_of-index.result
          c.index_mut.result.now here at
          c.index_mut.ensures.value,
      unlinked-cut n l c.self.invariant.0 c.self.invariant.1 c.args.node c.in-Some.home c.index_of-index.result
          c.index_mut.result.now here at
          c.index_mut.ensures.value _ _
          (rw c.remove.ensures.capacity c.self.invariant.1.for_nodes) c.self.invariant.1.for_lens,
    )

pub returns-clause-unlinked : goal.returns-clause-unlinked
returns-clause-unlinked c = record {
  same_nodes = ap (λ (p : PlainParts). p.nodes) c.self.view_is;
  same_lists = ap (λ (p : PlainParts). p.lists) c.self.view_is;
  same_list = λ m.
      let here = some (goal.at.returns-clause-unlinked c).After-deref in
      let at = stands (goal.at.returns-clause-unlinked c).After-index_of-index in
      rw c.remove.ensures.items (unlinked-list c.self.inside.node_count c.self.inside.list_count c.self.invariant.0
      c.self.invariant.1 c.args.node
      c.in-Some.home c.index_of-index.result c.index_mut.result.now here at c.index_mut.ensures.value m)
      ∙ ap (λ (p : PlainParts). without_node c.args.node (part p.parts m)) c.self.view_is;
}

pub returns-clause-kept : goal.returns-clause-kept
returns-clause-kept c = plain-are _ (invariant_of-self c).0
