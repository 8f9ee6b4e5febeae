-- A word of a closed table.
use Rattle.std.proofs.Common.{◌≡◌, ℕ, zero, suc, ◌+◌, ◌<◌, List, [], ◌∷◌, length, map, drop, get_or, get_or-drop, sym}
use Rattle.std.proofs.Common.{ap, ◌∙◌, arith, None}
use Rattle.std.proofs.lemmas.List.{get_or-map, length-map}
use Rattle.solver.specs.Words.{value_of_word}
use mathlib.Core.Option.{some, some-ne-none, some-injective}
use lib.ListN.{get_elem?}

pub read_at : (l : List ℕ) (i x : ℕ) → get_elem? l i ≡ some x → get_or l i 0 ≡ x
read_at [] i x e = absurd (some-ne-none x (sym e))
read_at (y ∷ ys) zero x e = some-injective y x e
read_at (y ∷ ys) (suc i) x e = read_at ys i x e

-- the value of a configuration is that of its word in the closed table
pub value_read : (words : List ℕ) (gaps rank word : ℕ) → rank < length (map value_of_word (drop gaps words))
    → get_elem? words (gaps + rank) ≡ some word
    → get_or (map value_of_word (drop gaps words)) rank None ≡ value_of_word word
value_read words gaps rank word inside e =
    let long = length-map (drop gaps words) value_of_word in
    get_or-map value_of_word (drop gaps words) rank 0 None (omega arith)
    ∙ ap value_of_word (get_or-drop gaps words rank 0 ∙ read_at words (gaps + rank) word e)
