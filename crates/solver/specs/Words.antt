-- The meaning of a solver's words and counts: the values of configurations, and the numbers of
-- lasting answers of gaps.
use Rattle.std.specs.Prelude.{◌≡◌, ◌≢◌, ℕ, ◌<◌, ◌≤◌, ◌==◌, ◌↔◌, cond, List, length, slice_index}
use Rattle.std.specs.Prelude.{slice_index_or, Option, Some, None}
use Rattle.positions.specs.declared.value.Value.TheVariants.{Finite}
use Rattle.positions.specs.Value.{HasValue}
use Rattle.positions.specs.Counts.{HasSize}
use Rattle.positions.specs.declared.space.TheConstants.{MAX_CONFIGURATIONS}
use Rattle.gap_values.specs.RoundWords.{round_of_word}
use Rattle.graphs.specs.Numbered.{Numbered, graph_of, configuration_of}
use Rattle.gap_values.specs.declared.closing.TheConstants.{OPEN}
use Rattle.solver.specs.Solving.{Solving, AnswerLasts}

-- the value that a word stands for, if it stands for one
abbrev pub value_of_word : ℕ → Option ℕ
value_of_word word = cond (word == OPEN) None (Some word)

-- each number is that of a gap's answers that last as long as the round's value
abbrev pub AreFirstCounts : Solving → List ℕ → Type 0
AreFirstCounts s counts = (gap : ℕ) → gap < (graph_of s.game).gaps
    → HasSize (AnswerLasts s.game gap s.rounds) (slice_index counts gap)

-- each configuration has its value, if that is at most the round's
abbrev pub AreFirstValues : Solving → List (Option ℕ) → Type 0
AreFirstValues s values = (x value : ℕ) → x < (graph_of s.game).configurations
    → (slice_index_or values x None ≡ Some value)
    ↔ ((value ≤ s.rounds) × HasValue s.game.board (configuration_of s.game x) (Finite value))

-- each number has the word of the value of its configuration
pub record AreValueWords (n : Numbered) (words : List ℕ) : Type 0 where
  pub size : length words ≡ (graph_of n).configurations
  pub each : (x : ℕ) → x < (graph_of n).configurations
      → HasValue n.board (configuration_of n x) (round_of_word (slice_index words x))
  pub few : (x : ℕ) → x < (graph_of n).configurations → slice_index words x ≢ OPEN
      → slice_index words x < MAX_CONFIGURATIONS
