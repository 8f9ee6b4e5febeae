use Rattle.std.proofs.Common.{◌≡◌, ◌≤◌, ◌-◌, ℕ, List}
use Rattle.strategies.specs.Inside.Lines.{AreLinesAt}
use Rattle.strategies.specs.Inside.Marks.{AreListed, IsMarked}
use Rattle.strategies.specs.Inside.NumberedPositions.{over_ranks}
use Rattle.strategies.proofs.lines.lines_between.Given as goal

abbrev pub invariant-loop-rank : goal.invariant-loop-rank
invariant-loop-rank g l = record {
  here : l.here.board ≡ l.fn.moves;
  ranks : List ℕ;
  listed : AreListed (IsMarked l.fn.marks) l.fn.span.start l.from ranks;
  lines : AreLinesAt l.fn.moves (g.R.SectionRow.side (over_ranks l.fn.moves) l.fn.start) (g.R.LineRow.line l.fn.moves)
      ranks
      l.text.bytes l.rows;
  after : l.fn.span.start ≤ l.from;
  before : l.from ≤ l.fn.span.end;
  few : l.rows ≤ l.from;
}

abbrev pub decreases-loop-rank : goal.decreases-loop-rank
decreases-loop-rank g l = l.fn.span.end - l.from
