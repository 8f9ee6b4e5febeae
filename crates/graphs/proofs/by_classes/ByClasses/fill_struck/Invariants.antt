use Rattle.std.proofs.Common.{◌≡◌, length}
use Rattle.graphs.specs.ClassGraph.{classes}
use Rattle.graphs.specs.Inside.Families.{IsFilledTo}
use Rattle.graphs.proofs.FilledFamilies.{IsAtGap}
use Rattle.graphs.proofs.by_classes.ByClasses.fill_struck.Given as goal

abbrev pub invariant-loop-gap : goal.invariant-loop-gap
invariant-loop-gap l = record {
  at : IsAtGap l.board l.gap l.start;
  size : length l.struck ≡ length l.initial.struck;
  filled : IsFilledTo (classes l.board) l.start l.struck;
}
