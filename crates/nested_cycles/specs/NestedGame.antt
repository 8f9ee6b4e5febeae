-- A game on a nested board, with as many pebbles as levels.
use Rattle.std.specs.Prelude.{◌≡◌, ℕ, ◌<◌, List, ◌+◌, ◌++◌, length, take, drop, All}
use Rattle.board_text.specs.Ranges.{InRange}
use Rattle.nested_cycles.specs.Domination.{labels_of}
use Rattle.nested_cycles.specs.GoodWords.{NestedGood}
use Rattle.nested_cycles.specs.declared.game.TheConstants.{MAX_LEVELS}

-- a game as plain data: its level, and the word of each pebble
pub record PlainGame : Type 0 where
  pub levels : ℕ
  pub words : List ℕ

-- the game of a level in which the pebbles are on these words
abbrev pub plain_game : ℕ → List ℕ → PlainGame
plain_game levels words = record { levels = levels; words = words }

-- One label for each pebble, as many pebbles as levels, on good words.
pub record IsGood (game : PlainGame) : Type 0 where
  pub level : InRange 1 MAX_LEVELS game.levels
  pub each_pebble : length game.words ≡ game.levels
  pub labels : All (λ word. word < labels_of game.levels) game.words
  pub good : NestedGood game.levels game.words

-- the words of the other pebbles
abbrev pub other_words : ℕ → List ℕ → List ℕ
other_words pebble words = take pebble words ++ drop (pebble + 1) words
