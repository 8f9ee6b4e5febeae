-- The word that answers a request on a nested board.
use Rattle.std.specs.Prelude.{◌≡◌, ℕ, zero, suc, ◌-◌, ◌⊎◌, List, [], ◌∷◌, replicate}
use Rattle.nested_cycles.specs.Domination.{label_word}
use Rattle.nested_cycles.specs.GoodWords.{next_digit, first_digits, rests_in, AreInOneCopy}
use Rattle.nested_cycles.specs.GoodWords.{AreInTwoCopies, label_words}

-- the first label of the copy that comes next after the only one; of two copies, the reply within
-- the one that comes next
abbrev pub IsReply : ℕ → List (List ℕ) → List ℕ → Type 0
IsReply zero others reply = reply ≡ []
IsReply (suc count) others reply =
    ((others ≡ []) × (reply ≡ replicate (suc count) 0))
    ⊎ ((digit : ℕ) × (others ≡ [] → ⊥) × AreInOneCopy digit (first_digits others)
    × (reply ≡ next_digit digit ∷ replicate count 0))
    ⊎ ((digit : ℕ) × (rest : List ℕ) × AreInTwoCopies digit (first_digits others)
    × (reply ≡ next_digit digit ∷ rest)
    × IsReply count (rests_in (next_digit digit) others) rest)

-- the label answers a request whose other pebbles are on these labels
abbrev pub NestedReply : ℕ → List ℕ → ℕ → Type 0
NestedReply levels others reply =
    IsReply (levels - 1) (label_words levels others) (label_word levels reply)
