-- A solver as plain data, and its knowledge of the game.
use Rattle.std.specs.Prelude.{◌≡◌, ℕ, suc, ◌+◌, ◌<◌, ◌≤◌, ◌↔◌, Bool, true, false, List, [], length}
use Rattle.std.specs.Prelude.{filter, AllPairs, slice_index_or}
use Rattle.board_text.specs.PlainBoard.{PlainBoard, IsBoard, IsConfiguration}
use Rattle.index_lists.specs.Lists.{times}
use Rattle.positions.specs.declared.space.TheConstants.{MAX_CONFIGURATIONS}
use Rattle.positions.specs.declared.value.Value.TheVariants.{Finite, Forever}
use Rattle.positions.specs.Game.{LabellerTree}
use Rattle.positions.specs.Ranks.{configurations}
use Rattle.positions.specs.Value.{HasValue}
use Rattle.graphs.specs.Answers.{IsAnswerIn}
use Rattle.graphs.specs.Graph.{is_struck}
use Rattle.graphs.specs.Numbered.{Numbered, graph_of, configuration_of}

-- a board and what its numbers stand for, the last round that filed something, whether a later one
-- filed nothing; the configurations filed at each value, the members of each gap that are not
-- filed, and the configurations that must be struck next
pub record Solving : Type 0 where
  pub game : Numbered
  pub rounds : ℕ
  pub is_done : Bool
  pub buckets : List (List ℕ)
  pub sources : List (List ℕ)
  pub due : List ℕ

-- the configurations filed at a value, in order of filing
abbrev pub bucket : Solving → ℕ → List ℕ
bucket s value = slice_index_or s.buckets value []

-- the members of a gap that are not filed
abbrev pub source : Solving → ℕ → List ℕ
source s gap = slice_index_or s.sources gap []

-- the number is that of a configuration of this finite value
pub record IsWorth (n : Numbered) (x value : ℕ) : Type 0 where
  pub is_rank : x < (graph_of n).configurations
  pub has_value : HasValue n.board (configuration_of n x) (Finite value)

-- a number is filed at a value exactly if that is the value of its
-- configuration, and no round is still to come for it
pub record AreBuckets (s : Solving) : Type 0 where
  pub filed : (value x : ℕ) → x < (graph_of s.game).configurations
      → (0 < times x (bucket s value))
      ↔ ((value ≤ s.rounds) × HasValue s.game.board (configuration_of s.game x) (Finite value))
  pub once : (value x : ℕ) → times x (bucket s value) ≤ 1
  pub ranks : (value x : ℕ) → 0 < times x (bucket s value) → x < (graph_of s.game).configurations
  pub ascending : AllPairs (λ first second. first < second) (bucket s 0)

-- the members of a gap that have no value of at most the
-- number of rounds, each once, in ascending order
pub record AreOpenMembers (s : Solving) : Type 0 where
  pub listed : (gap place : ℕ) → gap < (graph_of s.game).gaps → place < (graph_of s.game).places
      → (0 < times ((graph_of s.game).member gap place) (source s gap))
      ↔ LabellerTree s.game.board (suc s.rounds)
      (configuration_of s.game ((graph_of s.game).member gap place))
  pub once : (gap x : ℕ) → gap < (graph_of s.game).gaps → x < (graph_of s.game).configurations
      → times x (source s gap) ≤ 1
  pub members : (gap x : ℕ) → gap < (graph_of s.game).gaps → 0 < times x (source s gap)
      → (place : ℕ) × (place < (graph_of s.game).places) × (x ≡ (graph_of s.game).member gap place)
  pub ascending : (gap : ℕ) → gap < (graph_of s.game).gaps
      → AllPairs (λ first second. first < second) (source s gap)

-- a round strikes these: the configurations filed at its value that are answers, in order of filing
abbrev pub to_strike : Solving → List ℕ
to_strike s = filter (is_struck (graph_of s.game)) (bucket s s.rounds)

-- the knowledge of a solver, whenever no call of it runs
pub record IsSolving (s : Solving) : Type 0 where
  pub is_board : IsBoard s.game.board
  pub few : (graph_of s.game).configurations ≤ MAX_CONFIGURATIONS
  pub small : configurations s.game.board ≤ MAX_CONFIGURATIONS
  pub below : s.rounds < (graph_of s.game).configurations
  pub buckets : AreBuckets s
  pub sources : AreOpenMembers s
  pub due : s.due ≡ to_strike s
  pub forever : s.is_done ≡ true → (x : ℕ) → x < (graph_of s.game).configurations
      → LabellerTree s.game.board (suc s.rounds) (configuration_of s.game x)
      → HasValue s.game.board (configuration_of s.game x) Forever

-- a solver of these numbers before its first round
abbrev pub IsFresh : Numbered → Solving → Type 0
IsFresh game s = (s.game ≡ game) × (s.rounds ≡ 0) × (s.is_done ≡ false) × IsSolving s

-- no configuration has the value
abbrev pub NoneHas : PlainBoard → ℕ → Type 0
NoneHas board value = (configuration : List ℕ) → IsConfiguration board configuration
    → HasValue board configuration (Finite value) → ⊥

-- the configurations of the next value were filed, `n` of them
abbrev pub HasFiled : Solving → Solving → ℕ → Type 0
HasFiled before after n =
    (0 < n) × (n ≡ length (bucket after (suc before.rounds))) × (after.rounds ≡ before.rounds + 1)
    × (after.is_done ≡ false)

-- no configuration has the next value, and nothing was filed
abbrev pub HasFoundNone : Solving → Solving → Type 0
HasFoundNone before after = NoneHas before.game.board (suc before.rounds)
    × (after.rounds ≡ before.rounds) × (after.is_done ≡ true)

-- the place is an answer, and a labeller lasts `depth` requests more after it
abbrev pub AnswerLasts : Numbered → ℕ → ℕ → ℕ → Type 0
AnswerLasts n gap depth place = IsAnswerIn (graph_of n) gap place
    × LabellerTree n.board depth (configuration_of n ((graph_of n).member gap place))

-- the place is an answer, and a labeller lasts forever after it
abbrev pub AnswerForever : Numbered → ℕ → ℕ → Type 0
AnswerForever n gap place = IsAnswerIn (graph_of n) gap place
    × HasValue n.board (configuration_of n ((graph_of n).member gap place)) Forever
