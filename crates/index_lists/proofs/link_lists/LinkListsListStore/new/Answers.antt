use Rattle.std.proofs.Common.{refl, subst}
use Rattle.index_lists.specs.Lists.{AreSame, empty_lists}
use Rattle.index_lists.specs.Inside.Links.{IsLinks, chains_of, chained_lists}
use Rattle.index_lists.proofs.Fields.{bare-links}
use Rattle.index_lists.proofs.LinkCalls.{lists-kept, empty-links, empty-same}
use Rattle.index_lists.proofs.link_lists.LinkListsListStore.new.Goals as goal

pub invariant_of-result : goal.invariant_of-result
invariant_of-result c =
    let n = c.args.node_count in
    let l = c.args.list_count in
    subst (IsLinks n l) (bare-links n l _ _ (c.in_ok-nodes.ensures.items_if_clones_equal (λ y e. e))
    (c.in_ok-ends.ensures.items_if_clones_equal (λ y e. e))) (empty-links n l)

pub returns-clause-empty : goal.returns-clause-empty
returns-clause-empty c =
    let n = c.args.node_count in
    let l = c.args.list_count in
    subst (λ s. AreSame (chained_lists (chains_of n l s)) (empty_lists n l))
    (bare-links n l _ _ (c.in_ok-nodes.ensures.items_if_clones_equal (λ y e. e))
    (c.in_ok-ends.ensures.items_if_clones_equal (λ y e. e)))
    (empty-same n l)

pub returns-clause-kept : goal.returns-clause-kept
returns-clause-kept c = lists-kept refl (invariant_of-result c)
