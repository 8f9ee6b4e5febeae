use Rattle.std.proofs.Common.{◌≡◌, ◌+◌, ◌<◌, length, drop, sym, subst, ap, ◌∙◌, refl, arith}
use Rattle.std.specs.Prelude.{sum}
use Rattle.index_lists.specs.Lists.{AreLists}
use Rattle.index_lists.specs.Parts.{PlainParts}
use Rattle.index_lists.specs.Inside.Parts.{lists_of_parts, part}
use Rattle.index_lists.proofs.Parts.{plain-are, plain-nodes, cut-sum, cut-part}
use Rattle.index_lists.proofs.plain_lists.PlainLists.nodes_of.Goals as goal
use Rattle.index_lists.proofs.plain_lists.PlainLists.nodes_of.Goals.{After-end_of-end}

pub returns-then-len-of-clause-kept : goal.returns-then-len-of-clause-kept
returns-then-len-of-clause-kept c =
    subst (λ (p : PlainParts). AreLists (lists_of_parts p)) c.self.view_is (plain-are _ c.self.invariant.0)

pub end_of-end-requires-clause-whole : goal.end_of-end-requires-clause-whole
end_of-end-requires-clause-whole c =
    ap sum c.deref-2.ensures.value ∙ cut-sum c.self.invariant.1 ∙ sym (ap length c.deref.ensures.value)

pub end_of-end-requires-clause-few : goal.end_of-end-requires-clause-few
end_of-end-requires-clause-few c =
    let few = plain-nodes _ c.self.invariant.0 refl c.self.invariant.1 in
    omega (arith, few, ap length c.deref.ensures.value, c.self.invariant.0.few)

module _ (c : After-end_of-end) where
  inside : c.args.of < length c.self.inside.lens.items
  inside = omega (arith, c.if-len-of.false, c.len.ensures, c.self.inside.lens.ok.0)

  ends : c.end_of-end.result + sum (drop (c.args.of + 1) c.self.inside.lens.items) ≡ length c.self.inside.nodes.items
  ends = sym (ap (λ ns. c.end_of-end.result + sum (drop (c.args.of + 1) ns)) c.deref-2.ensures.value)
      ∙ c.end_of-end.ensures
      ∙ ap length c.deref.ensures.value

pub overflow_sub-result : goal.overflow_sub-result
overflow_sub-result c =
    let b = (goal.at.overflow_sub-result c).After-end_of-end in
    (cut-part c.self.invariant.1 c.args.of c.end_of-end.result c.index.result.now c.index.result.now (inside b)
    (ends b) c.index.ensures).0

pub returns-clause-nodes : goal.returns-clause-nodes
returns-clause-nodes c =
    let b = (goal.at.returns-clause-nodes c).After-end_of-end in
    let found = cut-part c.self.invariant.1 c.args.of c.end_of-end.result c.index.result.now c.index.result.now
    (inside b) (ends b)
    c.index.ensures in
    rw c.deref-3.ensures.value (found.2 ∙ ap (λ (p : PlainParts). part p.parts c.args.of) c.self.view_is)

pub returns-clause-kept : goal.returns-clause-kept
returns-clause-kept c =
    subst (λ (p : PlainParts). AreLists (lists_of_parts p)) c.self.view_is (plain-are _ c.self.invariant.0)
