use Rattle.index_lists.proofs.LinkCalls.{lists-kept}
use Rattle.index_lists.proofs.link_lists.LinkListsListStore.len.Goals as goal

pub returns-clause-kept : goal.returns-clause-kept
returns-clause-kept c = lists-kept c.self.view_is c.self.invariant
