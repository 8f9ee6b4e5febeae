use Rattle.std.proofs.Common.{◌<◌, IfSome}
use Rattle.solving_tests.proofs.lists.assert_list.Given as goal

abbrev pub invariant-loop-wanted : goal.invariant-loop-wanted
invariant-loop-wanted g l = IfSome l.at (λ node. node < (g.S.ListStore.state l.store).nodes)

abbrev pub invariant-loop-wanted-2 : goal.invariant-loop-wanted-2
invariant-loop-wanted-2 g l =
    (goal.iterator-loop-wanted-2 g).can_next l.wanted-iterator ×
    (goal.iterator-loop-wanted-2 g).is_finite l.wanted-iterator ×
    IfSome l.at (λ node. node < (g.S.ListStore.state l.store).nodes)
