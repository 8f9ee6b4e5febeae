use Rattle.std.proofs.Common.{◌≡◌, ◌<◌, inl, inr, subst, sym, ap, ◌∙◌, arith}
use Rattle.std.proofs.lemmas.Bool.{cases_lt}
use Rattle.index_lists.specs.Lists.{times, AreLists}
use Rattle.index_lists.specs.Parts.{PlainParts}
use Rattle.index_lists.specs.Inside.Parts.{lists_of_parts}
use Rattle.index_lists.proofs.KeptLists.{home-of_in}
use Rattle.index_lists.proofs.Parts.{plain-are}
use Rattle.index_lists.proofs.Places.{any-in, any-out}
use Rattle.index_lists.proofs.plain_lists.PlainListsListStore.home.Goals as goal

pub returns-then-contains-clause-home : goal.returns-then-contains-clause-home
returns-then-contains-clause-home c = home-of_in _ c.nodes_of.ensures.kept c.loop-list.list c.args.node
    (subst (λ xs. 0 < times c.args.node xs) c.nodes_of.ensures.nodes
    (any-in c.args.node c.nodes_of.result.now (sym c.contains.ensures.value ∙ c.if-contains.true)))

pub loop-list-preserved : goal.loop-list-preserved
loop-list-preserved c = λ list low. elim (cases_lt list c.loop-list.list) [
  | inl lt ↦ c.loop-list.invariant list lt
  | inr ge ↦ (
      let here : list ≡ c.loop-list.list = omega (arith, ge, low) in
      rw here (sym (ap (times c.args.node) c.nodes_of.ensures.nodes)
      ∙ any-out c.args.node c.nodes_of.result.now (sym c.contains.ensures.value ∙ c.if-contains.false)))
]

pub returns-clause-kept : goal.returns-clause-kept
returns-clause-kept c =
    subst (λ (p : PlainParts). AreLists (lists_of_parts p)) c.self.view_is (plain-are _ c.self.invariant.0)
