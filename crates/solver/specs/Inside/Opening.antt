-- Facts that hold while a machine is opened.
use Rattle.std.specs.Prelude.{◌≡◌, ℕ, ◌+◌, ◌<◌, [], length, AllPairs}
use Rattle.graphs.specs.Graph.{lasts}
use Rattle.graphs.specs.Numbered.{graph_of}
use Rattle.solver.specs.Inside.Stage.{PlainStage, filed_at, IsStage}
use Rattle.solver.specs.Inside.Tables.{IsCounted, AreFirstWords}

-- each configuration has its first word, and none is filed
pub record IsUnlisted (s : PlainStage) : Type 0 where
  pub value_is : s.value ≡ 0
  pub counts_are : IsCounted (graph_of s.game) (lasts (graph_of s.game) 0) s.counts
  pub words_are : AreFirstWords (graph_of s.game) s.values
  pub lists_length : length s.buckets ≡ (graph_of s.game).configurations + 1
  pub lists_are : (v : ℕ) → filed_at s v ≡ []

-- a stage that is opened: the configurations of value 0 are filed, in ascending order
pub record IsOpened (s : PlainStage) : Type 0 where
  pub value_is : s.value ≡ 0
  pub stage : IsStage (lasts (graph_of s.game) 0) s
  pub ascending : AllPairs (λ first second. first < second) (filed_at s 0)
  pub none_later : (v : ℕ) → 0 < v → filed_at s v ≡ []
