use Rattle.std.proofs.Common.{◌≡◌, ◌+◌, ◌-◌, ◌++◌, ◌∷◌, [], ◌==◌, if◌then◌else◌, length, drop, sym, ap, ◌∙◌, arith}
use Rattle.std.specs.Prelude.{sum}
use Rattle.std.specs.List.{insert}
use Rattle.std.proofs.lemmas.List.{append-nil, drop_all}
use Rattle.std.proofs.lemmas.List.Edits.{insert_end}
use Rattle.index_lists.specs.Parts.{PlainParts}
use Rattle.index_lists.specs.Inside.Parts.{part}
use Rattle.index_lists.proofs.Parts.{IsToPush, plain-are, list-room, list-small, pushed-cut, pushed-plain}
use Rattle.index_lists.proofs.Parts.{pushed-list, to-push}
use Rattle.index_lists.proofs.plain_lists.PlainListsListStore.push_back.Goals as goal
use Rattle.index_lists.proofs.plain_lists.PlainListsListStore.push_back.Goals.{After-index_mut, After-push_reserved}

module _ (c : After-index_mut) where
  last : length c.self.inside.lens.items ≡ c.args.to + 1
  last = omega (arith, c.if-len-to.true, c.len.ensures, c.self.inside.lens.ok.0)

  -- the list has a length already
  pushes : IsToPush c.self.inside.node_count c.self.inside.list_count c.self.inside.lens.items
      c.self.inside.nodes.items c.args.to c.args.node c.self.inside.lens.items
  pushes =
      let none : c.args.to + 1 - length c.self.inside.lens.items ≡ 0 = let e = last in omega (arith, e) in
      to-push _ _ _ _ _ _ _ _ _ _ c.self.view_is c.self.invariant.0 c.self.invariant.1 c.requires.to_in
      c.requires.node_in c.requires.free (rw none (sym (append-nil c.self.inside.lens.items)))

  -- the part ends at the end of all nodes
  ends : length c.self.inside.nodes.items + sum (drop (c.args.to + 1) c.self.inside.lens.items)
      ≡ length c.self.inside.nodes.items
  ends = ap (λ ns. length c.self.inside.nodes.items + sum ns)
      (drop_all (c.args.to + 1) c.self.inside.lens.items (let e = last in omega (arith, e))) ∙ omega arith

put : (c : After-push_reserved) → c.push_reserved.new.self.items
    ≡ insert c.self.inside.nodes.items (length c.self.inside.nodes.items) c.args.node
put c = c.push_reserved.ensures.items ∙ sym (insert_end c.self.inside.nodes.items c.args.node)

pub overflow_add-index_mut : goal.overflow_add-index_mut
overflow_add-index_mut c =
    let small = list-small (pushes (goal.at.overflow_add-index_mut c).After-index_mut) c.index_mut.result.now
    c.index_mut.result.now c.index_mut.ensures.value in
    omega (arith, small, c.self.invariant.0.few)

pub push_reserved-requires : goal.push_reserved-requires
push_reserved-requires c =
    let room = list-room (pushes (goal.at.push_reserved-requires c).After-index_mut) in
    omega (arith, room, c.self.invariant.1.for_nodes, c.self.inside.nodes.ok.0)

pub invariant_of-self : goal.invariant_of-self
invariant_of-self c =
    let b = (goal.at.invariant_of-self c).After-index_mut in
    let more = put (goal.at.invariant_of-self c).After-push_reserved in (
      pushed-plain (pushes b) _ c.index_mut.result.now _ (ends b) c.index_mut.ensures.value more,
      pushed-cut (pushes b) _ c.index_mut.result.now _ (ends b) c.index_mut.ensures.value more _ _
          (omega (arith, c.self.invariant.1.for_nodes, c.push_reserved.ensures.capacity)) c.self.invariant.1.for_lens,
    )

pub returns-then-len-to-clause-pushed : goal.returns-then-len-to-clause-pushed
returns-then-len-to-clause-pushed c =
    let b = (goal.at.returns-then-len-to-clause-pushed c).After-index_mut in
    let more = put (goal.at.returns-then-len-to-clause-pushed c).After-push_reserved in
    record {
      same_nodes = ap (λ (p : PlainParts). p.nodes) c.self.view_is;
      same_lists = ap (λ (p : PlainParts). p.lists) c.self.view_is;
      same_list = λ m. pushed-list (pushes b) _ c.index_mut.result.now _ (ends b) c.index_mut.ensures.value more m
          ∙ ap (λ (p : PlainParts). if m == c.args.to then part p.parts m
          ++ c.args.node ∷ [] else part p.parts m) c.self.view_is;
    }

pub returns-then-len-to-clause-kept : goal.returns-then-len-to-clause-kept
returns-then-len-to-clause-kept c = plain-are _ (invariant_of-self c).0
