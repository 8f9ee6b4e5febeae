use Rattle.std.proofs.Common.{◌≢◌, ◌<◌, ℕ, get_or}
use Rattle.board_text.specs.PlainBoard.{DominatesPlace}
use Rattle.graphs.proofs.families.dominates_others.Given as goal

abbrev pub invariant-loop-other : goal.invariant-loop-other
invariant-loop-other l = (k : ℕ) → k < l.other → k ≢ l.index → DominatesPlace l.board l.label (get_or l.held k 0)
