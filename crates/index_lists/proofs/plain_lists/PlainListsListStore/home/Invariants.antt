use Rattle.std.proofs.Common.{◌≡◌, ℕ, ◌<◌}
use Rattle.index_lists.specs.Lists.{times}
use Rattle.index_lists.specs.Inside.Parts.{part}
use Rattle.index_lists.proofs.plain_lists.PlainListsListStore.home.Given as goal

abbrev pub invariant-loop-list : goal.invariant-loop-list
invariant-loop-list l = (list : ℕ) → list < l.list → times l.node (part l.self.parts list) ≡ 0
