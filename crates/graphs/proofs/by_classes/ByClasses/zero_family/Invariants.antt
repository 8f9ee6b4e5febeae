use Rattle.graphs.proofs.StuckParts.{AreRestsZeroed}
use Rattle.graphs.proofs.by_classes.ByClasses.zero_family.Given as goal

abbrev pub invariant-loop-index : goal.invariant-loop-index
invariant-loop-index l =
    AreRestsZeroed l.self l.counts l.rests l.gap l.start l.index l.initial.family l.family
