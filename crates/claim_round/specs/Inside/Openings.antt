-- The words and the first seat of a round at its opening.
use Rattle.std.specs.Prelude.{◌≡◌, ℕ, ◌+◌, List, [], length, map, take, drop}
use Rattle.graphs.specs.Numbered.{graph_of}
use Rattle.solver.specs.Solving.{Solving}
use Rattle.solver.specs.Words.{value_of_word, AreFirstCounts, AreFirstValues}
use Rattle.claim_round.specs.Shared.{Key, View}

-- the counts of all gaps, and then the words of all configurations
pub record AreOpeningWords (s : Solving) (words : List ℕ) : Type 0 where
  pub size : length words ≡ (graph_of s.game).gaps + (graph_of s.game).configurations
  pub counts : AreFirstCounts s (take ((graph_of s.game).gaps) words)
  pub values : AreFirstValues s (map value_of_word (drop ((graph_of s.game).gaps) words))

-- the first seat's view: it has the whole width and all to strike, and was told nothing
abbrev pub opening_view : Key → View
opening_view k = record {
  key = k;
  has = record { width = k.width; todo = k.solving.due; owed = []; won = [] };
  made = [];
  since = 0;
}
