use Rattle.std.proofs.Common.{◌-◌, ◌<◌, length, drop}
use Rattle.index_lists.specs.Lists.{times}
use Rattle.index_lists.proofs.plain_lists.index_of.Given as goal

abbrev pub invariant-loop-index : goal.invariant-loop-index
invariant-loop-index l = 0 < times l.node (drop l.index l.nodes)

abbrev pub decreases-loop-index : goal.decreases-loop-index
decreases-loop-index l = length l.nodes - l.index
