-- What the rounds of several seats ask of a graph.
use Rattle.std.specs.Prelude.{◌≡◌, ℕ, suc, ◌+◌, ◌<◌, ◌==◌, not, Bool, true, cond, List, [], ◌∷◌}
use Rattle.index_lists.specs.Lists.{times}
use Rattle.graphs.specs.Graph.{PlainGraph, live_answers, lasts}

-- whether the number is in the list
abbrev pub stands : List ℕ → ℕ → Bool
stands ranks x = not (times x ranks == 0)

-- the number of entries of a list that are struck in the gap
abbrev pub tally : (ℕ → ℕ) → ℕ → List ℕ → ℕ
tally home gap [] = 0
tally home gap (x ∷ ranks) = cond (home x == gap) 1 0 + tally home gap ranks

-- a member of a gap without an answer above the round's value,
-- which has no value of at most the round's
pub record IsToWin (a : PlainGraph) (round x : ℕ) : Type 0 where
  pub gap : ℕ
  pub is_gap : gap < a.gaps
  pub none_above : live_answers a (lasts a (suc round)) gap ≡ 0
  pub place : ℕ
  pub is_place : place < a.places
  pub member : a.member gap place ≡ x
  pub is_open : lasts a (suc round) x ≡ true
