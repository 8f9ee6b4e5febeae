use Rattle.std.proofs.Common.{◌∙◌, ◌-◌, ap, length, slice_get}
use Rattle.index_lists.proofs.Places.{read-below}
use Rattle.index_lists.proofs.plain_lists.PlainListsListStore.last.Goals as goal

pub returns-clause-below : goal.returns-clause-below
returns-clause-below c = read-below _ c.args.of _ _ c.nodes_of.ensures.kept
    (c.copied.ensures ∙ c.last.ensures.value ∙ ap (λ xs. slice_get xs (length xs - 1)) c.nodes_of.ensures.nodes)
