use Rattle.std.proofs.Common.{◌≡◌, ◌+◌, length}
use Rattle.graphs.specs.ClassGraph.{classes}
use Rattle.graphs.specs.Inside.Families.{IsFilledTo}
use Rattle.graphs.proofs.families.Family.fill.Given as goal

abbrev pub invariant-loop-place : goal.invariant-loop-place
invariant-loop-place l = record {
  size : length l.struck ≡ length l.initial.struck;
  filled : IsFilledTo (classes l.board) (l.self.start + l.place) l.struck;
}
