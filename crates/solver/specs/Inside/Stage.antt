-- A stage as plain data, and the changes that a round makes to it.
use Rattle.std.specs.Prelude.{◌≡◌, ◌≢◌, ℕ, suc, ◌+◌, ◌-◌, ◌<◌, ◌≤◌, ◌==◌, Bool, true, false, cond}
use Rattle.std.specs.Prelude.{List, [], ◌∷◌, ◌++◌, length, map, filter, AllPairs, slice_index}
use Rattle.std.specs.Prelude.{slice_index_or, slice_set}
use Rattle.std.specs.List.{range_with_len}
use Rattle.index_lists.specs.Lists.{Lists, AreLists, times}
use Rattle.board_text.specs.PlainBoard.{IsBoard}
use Rattle.positions.specs.Ranks.{configurations}
use Rattle.positions.specs.declared.space.TheConstants.{MAX_CONFIGURATIONS}
use Rattle.graphs.specs.Numbered.{Numbered, graph_of}
use Rattle.graphs.specs.Graph.{PlainGraph, IsGraph, count_below, lasts, is_struck}
use Rattle.solver.specs.Solving.{Solving}
use Rattle.solver.specs.Inside.Tables.{IsLast, is_unstruck, struck_rounds, open_members, IsCounted}
use Rattle.solver.specs.Inside.Tables.{AreWords, GapIsClosed}

-- a board and what its numbers stand for, the value that configurations are filed at, a word for
-- each configuration, a count for each gap, the configurations filed at each value, and those that
-- a round copied from the store
pub record PlainStage : Type 0 where
  pub game : Numbered
  pub value : ℕ
  pub values : List ℕ
  pub counts : List ℕ
  pub buckets : List (List ℕ)
  pub strikes : List ℕ

-- the first `count` lists
abbrev pub first_lists : ℕ → (ℕ → List ℕ) → List (List ℕ)
first_lists count list = map list (range_with_len 0 count)

-- the stage of these parts, of which the buckets stand in a store
abbrev pub stage_of : Numbered → ℕ → List ℕ → List ℕ → Lists → List ℕ → PlainStage
stage_of game value values counts stored strikes = record {
  game = game;
  value = value;
  values = values;
  counts = counts;
  buckets = first_lists stored.lists stored.list;
  strikes = strikes;
}

-- a graph with few configurations, and a value that one of them may have
pub record IsSmall (a : PlainGraph) (value : ℕ) : Type 0 where
  pub is_graph : IsGraph a
  pub few : a.configurations ≤ MAX_CONFIGURATIONS
  pub low : value ≤ a.configurations

-- a word for each configuration and for each gap
pub record AreWide (a : PlainGraph) (values counts : List ℕ) : Type 0 where
  pub values_length : length values ≡ a.configurations
  pub counts_length : length counts ≡ a.gaps

-- a store of a list for each value, of configurations
pub record AreStored (a : PlainGraph) (s : Lists) : Type 0 where
  pub nodes_is : s.nodes ≡ a.configurations
  pub lists_is : s.lists ≡ a.configurations + 1
  pub are_lists : AreLists s

-- the configurations filed at a value, in order of filing
abbrev pub filed_at : PlainStage → ℕ → List ℕ
filed_at s value = slice_index_or s.buckets value []

-- the stage in which a configuration is appended to the list of the value
abbrev pub rank_listed : PlainStage → ℕ → PlainStage
rank_listed s rank =
    record s { buckets = slice_set s.buckets s.value (filed_at s s.value ++ rank ∷ []) }

-- the stage in which a configuration has the value too
abbrev pub rank_filed : PlainStage → ℕ → PlainStage
rank_filed s rank = rank_listed (record s { values = slice_set s.values rank s.value }) rank

-- the stage with these counts
abbrev pub with_counts : PlainStage → List ℕ → PlainStage
with_counts s counts = record s { counts = counts }

-- the stage at the next value
abbrev pub at_next_value : PlainStage → PlainStage
at_next_value s = record s { value = s.value + 1 }

-- the configurations that a round strikes: those filed at the value before that are answers
abbrev pub due_strikes : PlainStage → List ℕ
due_strikes s = filter (is_struck (graph_of s.game)) (filed_at s (s.value - 1))

-- the stage that has copied the configurations filed at the value before from the store
abbrev pub strikes_copied : PlainStage → PlainStage
strikes_copied s = record s { strikes = filed_at s (s.value - 1) }

-- the list of each value has the configurations of that word, each once
pub record IsFiled (s : PlainStage) : Type 0 where
  pub values_length : length s.values ≡ (graph_of s.game).configurations
  pub lists_length : length s.buckets ≡ (graph_of s.game).configurations + 1
  pub below : (v x : ℕ) → 0 < times x (filed_at s v) → x < (graph_of s.game).configurations
  pub once : (v x : ℕ) → v ≤ (graph_of s.game).configurations → x < (graph_of s.game).configurations
      → times x (filed_at s v) ≡ cond (slice_index s.values x == v) 1 0

-- words and lists together, if the test holds of the configurations that are not struck yet
pub record IsStage (test : ℕ → Bool) (s : PlainStage) : Type 0 where
  pub counts_are : IsCounted (graph_of s.game) test s.counts
  pub words_are : AreWords (graph_of s.game) test s.values
  pub filed_are : IsFiled s

-- nothing is filed but at the value
pub record IsKeptStage (s s' : PlainStage) : Type 0 where
  pub game_is : s'.game ≡ s.game
  pub value_is : s'.value ≡ s.value
  pub others : (v : ℕ) → v ≢ s.value → filed_at s' v ≡ filed_at s v

-- the open members of the gap are filed at the value, and nothing else changes
pub record Closes (s : PlainStage) (gap : ℕ) (s' : PlainStage) : Type 0 where
  pub kept : IsKeptStage s s'
  pub strikes_is : s'.strikes ≡ s.strikes
  pub counts_is : s'.counts ≡ s.counts
  pub words : GapIsClosed (graph_of s.game) gap s.value s.values s'.values
  pub filed_are : IsFiled s'

-- the configuration lasts r requests and no more, and is an answer
pub record IsStruckAt (a : PlainGraph) (r x : ℕ) : Type 0 where
  pub is_rank : x < a.configurations
  pub lasting : lasts a r x ≡ true
  pub stopping : lasts a (suc r) x ≡ false
  pub has_gap : a.struck x < a.gaps

-- in a round before the value, these are left to be struck
pub record IsStriking (s : PlainStage) (todo : List ℕ) : Type 0 where
  pub round : ℕ
  pub value_is : s.value ≡ suc round
  pub stage : IsStage (is_unstruck (graph_of s.game) round todo) s
  pub due : (x : ℕ) → 0 < times x todo → IsStruckAt (graph_of s.game) round x
  pub once : (x : ℕ) → times x todo ≤ 1

-- nothing of the value before is struck yet
pub record IsUnstruck (s : PlainStage) : Type 0 where
  pub is_board : IsBoard s.game.board
  pub round : ℕ
  pub value_is : s.value ≡ suc round
  pub small : IsSmall (graph_of s.game) s.value
  pub stage : IsStage (lasts (graph_of s.game) round) s

-- these configurations have the value too and are filed at it, in this order, and nothing else
-- changes
pub record FilesAll (s : PlainStage) (ranks : List ℕ) (s' : PlainStage) : Type 0 where
  pub kept : IsKeptStage s s'
  pub counts_is : s'.counts ≡ s.counts
  pub there : (x : ℕ) → 0 < times x ranks → slice_index s'.values x ≡ s.value
  pub elsewhere : (x : ℕ) → times x ranks ≡ 0 → slice_index s'.values x ≡ slice_index s.values x
  pub listed : filed_at s' s.value ≡ filed_at s s.value ++ ranks
  pub filed_are : IsFiled s'

-- the gaps have these counts, and nothing else changes
pub record TakesCounts (s : PlainStage) (counts : List ℕ) (s' : PlainStage) : Type 0 where
  pub rest : s' ≡ with_counts s s'.counts
  pub counts_length : length s'.counts ≡ length s.counts
  pub each : (gap : ℕ) → gap < (graph_of s.game).gaps
      → slice_index s'.counts gap ≡ slice_index counts gap

-- a solver between its calls
pub record IsState (s : PlainStage) (round : ℕ) (is_done : Bool) : Type 0 where
  pub is_board : IsBoard s.game.board
  pub is_graph : IsGraph (graph_of s.game)
  pub few : (graph_of s.game).configurations ≤ MAX_CONFIGURATIONS
  pub small : configurations s.game.board ≤ MAX_CONFIGURATIONS
  pub value_is : s.value ≡ suc round
  pub stage : IsStage (lasts (graph_of s.game) (struck_rounds is_done round)) s
  pub some : 0 < count_below (graph_of s.game).configurations (lasts (graph_of s.game) round)
  pub bound : count_below (graph_of s.game).configurations (lasts (graph_of s.game) round) + round
      ≤ (graph_of s.game).configurations
  pub last : is_done ≡ true → IsLast (graph_of s.game) (suc round)
  pub ascending : AllPairs (λ first second. first < second) (filed_at s 0)
  pub last_filed : 0 < round → 0 < length (filed_at s round)

-- a solver, as its callers see it
abbrev pub as_solving : PlainStage → Bool → Solving
as_solving s is_done = record {
  game = s.game;
  rounds = s.value - 1;
  is_done = is_done;
  buckets = s.buckets;
  sources = first_lists (graph_of s.game).gaps (open_members (graph_of s.game) s.values);
  due = due_strikes s;
}
