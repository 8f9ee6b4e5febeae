use Rattle.std.proofs.Common.{◌∙◌, ap, slice_get}
use Rattle.index_lists.proofs.Places.{read-below}
use Rattle.index_lists.proofs.plain_lists.PlainListsListStore.first.Goals as goal

pub returns-clause-below : goal.returns-clause-below
returns-clause-below c = read-below _ c.args.of 0 _ c.nodes_of.ensures.kept
    (c.copied.ensures ∙ c.first.ensures.value ∙ ap (λ xs. slice_get xs 0) c.nodes_of.ensures.nodes)
