-- The end of a round: the won configurations, and the counts that it leaves.
use Rattle.std.specs.Prelude.{◌≡◌, ℕ, suc, ◌<◌, ◌≤◌, ◌↔◌, List, length, slice_index}
use Rattle.index_lists.specs.Lists.{times}
use Rattle.positions.specs.Counts.{HasSize}
use Rattle.graphs.specs.Numbered.{graph_of}
use Rattle.solver.specs.Solving.{Solving, AnswerLasts, IsWorth}

-- the won configurations are those of the value after the round's, each once, and each count is the
-- number of the gap's answers that lead above the round's value
pub record IsRoundEnd (s : Solving) (won counts : List ℕ) : Type 0 where
  pub once : (x : ℕ) → times x won ≤ 1
  pub next : (x : ℕ) → (0 < times x won) ↔ IsWorth s.game x (suc s.rounds)
  pub wide : length counts ≡ (graph_of s.game).gaps
  pub above : (gap : ℕ) → gap < (graph_of s.game).gaps
      → HasSize (AnswerLasts s.game gap (suc s.rounds)) (slice_index counts gap)
