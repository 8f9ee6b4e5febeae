use Rattle.std.proofs.Common.{◌≡◌, ◌+◌, ◌++◌, ◌∷◌, [], ◌==◌, if◌then◌else◌, length, drop, refl, sym, ap, ◌∙◌, arith}
use Rattle.std.specs.Prelude.{sum}
use Rattle.index_lists.specs.Parts.{PlainParts}
use Rattle.index_lists.specs.Inside.Parts.{part}
use Rattle.index_lists.proofs.Parts.{IsToPush, plain-are, plain-nodes, cut-sum, list-cut, list-room, list-small}
use Rattle.index_lists.proofs.Parts.{pushed-cut, pushed-plain, pushed-list, to-push}
use Rattle.index_lists.proofs.plain_lists.PlainLists.insert.Goals as goal
use Rattle.index_lists.proofs.plain_lists.PlainLists.insert.Goals.{After-deref-2, After-put}

pushes : (c : After-deref-2)
    → IsToPush c.self.inside.node_count c.self.inside.list_count c.self.inside.lens.items c.self.inside.nodes.items
    c.args.to c.args.node c.begin.new.lens.items
pushes c =
    to-push _ _ _ _ _ _ _ _ _ _ c.self.view_is c.self.invariant.0 c.self.invariant.1 c.requires.to_in
    c.requires.node_in c.requires.free c.begin.ensures.lens

pub end_of-end-requires-clause-whole : goal.end_of-end-requires-clause-whole
end_of-end-requires-clause-whole c =
    ap sum c.deref-2.ensures.value ∙ cut-sum (list-cut (pushes c)) ∙ sym (ap length c.deref.ensures.value)

pub end_of-end-requires-clause-few : goal.end_of-end-requires-clause-few
end_of-end-requires-clause-few c =
    let few = plain-nodes _ c.self.invariant.0 refl c.self.invariant.1 in
    omega (arith, few, ap length c.deref.ensures.value, c.self.invariant.0.few)

pub overflow_add-index_mut : goal.overflow_add-index_mut
overflow_add-index_mut c =
    let small = list-small (pushes (goal.at.overflow_add-index_mut c).After-deref-2) c.index_mut.result.now
    c.index_mut.result.now c.index_mut.ensures.value in
    omega (arith, small, c.self.invariant.0.few)

pub put-requires-clause-room : goal.put-requires-clause-room
put-requires-clause-room c =
    let room = list-room (pushes (goal.at.put-requires-clause-room c).After-deref-2) in
    omega (arith, room, c.self.invariant.1.for_nodes)

module _ (c : After-put) where
  ends : c.end_of-end.result + sum (drop (c.args.to + 1) c.begin.new.lens.items) ≡ length c.self.inside.nodes.items
  ends = sym (ap (λ ns. c.end_of-end.result + sum (drop (c.args.to + 1) ns)) c.deref-2.ensures.value)
      ∙ c.end_of-end.ensures
      ∙ ap length c.deref.ensures.value

pub invariant_of-self : goal.invariant_of-self
invariant_of-self c =
    let push = pushes (goal.at.invariant_of-self c).After-deref-2 in
    let end = ends (goal.at.invariant_of-self c).After-put in (
      pushed-plain push c.end_of-end.result c.index_mut.result.now _ end c.index_mut.ensures.value c.put.ensures.items,
      pushed-cut push c.end_of-end.result c.index_mut.result.now _ end c.index_mut.ensures.value c.put.ensures.items _ _
          (omega (arith, c.self.invariant.1.for_nodes, c.put.ensures.capacity))
          (omega (arith, c.self.invariant.1.for_lens, c.begin.ensures.capacity)),
    )

pub returns-clause-pushed : goal.returns-clause-pushed
returns-clause-pushed c =
    let push = pushes (goal.at.returns-clause-pushed c).After-deref-2 in
    record {
      same_nodes = ap (λ (p : PlainParts). p.nodes) c.self.view_is;
      same_lists = ap (λ (p : PlainParts). p.lists) c.self.view_is;
      same_list = λ m. pushed-list push c.end_of-end.result c.index_mut.result.now _
          (ends (goal.at.returns-clause-pushed c).After-put) c.index_mut.ensures.value c.put.ensures.items m
          ∙ ap (λ (p : PlainParts). if m == c.args.to then part p.parts m
          ++ c.args.node ∷ [] else part p.parts m) c.self.view_is;
    }

pub returns-clause-kept : goal.returns-clause-kept
returns-clause-kept c = plain-are _ (invariant_of-self c).0
