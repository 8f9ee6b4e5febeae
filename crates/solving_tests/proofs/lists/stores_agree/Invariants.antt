use Rattle.std.proofs.Common.{◌≡◌}
use Rattle.solving_tests.specs.declared.lists.TheConstants.{NODES, LISTS}
use Rattle.solving_tests.proofs.lists.stores_agree.Given as goal

abbrev pub invariant-loop-turn : goal.invariant-loop-turn
invariant-loop-turn g l =
    (l.plain.nodes ≡ NODES) × (l.plain.lists ≡ LISTS) × (l.linked.nodes ≡ NODES) × (l.linked.lists ≡ LISTS)
