-- The fields of a closed round, and its view in clauses.
use Rattle.std.specs.Prelude.{◌≡◌, ℕ, ◌^◌, ◌<◌, ◌≤◌, List, map, take, drop, slice_index}
use Rattle.std.specs.Slots.{slots_items, slots_len, IsFull}
use Rattle.claim_round.specs.Shared.{Ended}
use Rattle.claim_round.specs.declared.closed.Closed.TheInside.{Inside}
use Rattle.solver.specs.Words.{value_of_word}

-- the words of a closed table
abbrev pub words_of : Inside → List ℕ
words_of s = slots_items s.rows.words

-- the first words are the counts, and those after them the values
abbrev pub end_of : Inside → Ended
end_of s =
    record {
      counts = take s.gaps (words_of s);
      values = map value_of_word (drop s.gaps (words_of s));
      won = s.won.items;
    }

-- each word is a small number
pub record IsEnd (s : Inside) : Type 0 where
  pub full : IsFull s.rows.words
  pub slots : slots_len s.rows.slots ≡ 0
  pub gaps : s.gaps ≤ slots_len s.rows.words
  pub counts : (g : ℕ) → g < s.gaps → slice_index (words_of s) g < 2 ^ 32
  pub values : (i : ℕ) → s.gaps ≤ i → i < slots_len s.rows.words
      → slice_index (words_of s) i < 2 ^ 32
