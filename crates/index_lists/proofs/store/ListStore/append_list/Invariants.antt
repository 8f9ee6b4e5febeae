use Rattle.std.proofs.Common.{◌≡◌, ◌+◌, ◌-◌, length, vec_capacity}
use Rattle.index_lists.specs.Lists.{AreLists}
use Rattle.index_lists.proofs.Walks.{IsPassed}
use Rattle.index_lists.proofs.store.ListStore.append_list.Given as goal

abbrev pub invariant-loop-next : goal.invariant-loop-next
invariant-loop-next g l =
    IsPassed ((g.Self.ListStore.state l.self).list l.of) l.initial.to.items l.to.items l.next
    × (vec_capacity l.to ≡ vec_capacity l.initial.to) × AreLists (g.Self.ListStore.state l.self)

abbrev pub decreases-loop-next : goal.decreases-loop-next
decreases-loop-next g l =
    length ((g.Self.ListStore.state l.self).list l.of) + length l.initial.to.items - length l.to.items
