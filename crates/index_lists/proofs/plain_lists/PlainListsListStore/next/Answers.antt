use Rattle.std.proofs.Common.{◌≡◌, ◌+◌, Some, subst, ap, ◌∙◌, arith, slice_get}
use Rattle.index_lists.specs.Inside.Parts.{part}
use Rattle.index_lists.proofs.Places.{read-below, same-place, stands-at}
use Rattle.index_lists.proofs.plain_lists.PlainListsListStore.next.Goals as goal
use Rattle.index_lists.proofs.plain_lists.PlainListsListStore.next.Goals.{After-next_in}

module _ (c : After-next_in) where
  stands : slice_get (part c.args.self.now.parts c.in-Some.home) c.next_in.ensures.0 ≡ Some c.args.node
  stands =
      subst (λ xs. slice_get xs c.next_in.ensures.0 ≡ Some c.args.node) c.nodes_of.ensures.nodes c.next_in.ensures.1

  shows : c.next_in.result ≡ slice_get (part c.args.self.now.parts c.in-Some.home) (c.next_in.ensures.0 + 1)
  shows = c.next_in.ensures.2 ∙ ap (λ xs. slice_get xs (c.next_in.ensures.0 + 1)) c.nodes_of.ensures.nodes

pub returns-in-Some-clause-behind : goal.returns-in-Some-clause-behind
returns-in-Some-clause-behind c = λ l place at.
    let same = same-place _ c.in-Some.home l c.args.node c.next_in.ensures.0 place c.nodes_of.ensures.kept
    (stands c) at in
    rw (same.0, same.1) (shows c)

pub returns-in-Some-clause-below : goal.returns-in-Some-clause-below
returns-in-Some-clause-below c = read-below _ c.in-Some.home _ _ c.nodes_of.ensures.kept (shows c)

pub returns-in-None-clause-behind : goal.returns-in-None-clause-behind
returns-in-None-clause-behind c = λ l place at.
    let some = stands-at place c.args.node _ at in
    absurd (omega (arith, some, c.in-None.ensures.home.free l))
