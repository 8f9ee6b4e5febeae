-- Places that are written one after the other.
use Rattle.std.proofs.Common.{◌≡◌, ℕ, ◌+◌, ◌<◌, ◌≤◌, List, [], ◌∷◌, ◌++◌, length, map, take, slice_index, sym, ap, ◌∙◌}
use Rattle.std.proofs.lemmas.List.{take_more, take_all, flat_map_more, map-append}
use Rattle.board_text.specs.Numerals.{spaced_texts}
use Rattle.board_text.specs.PlaceForms.{place_word, spaced_places}

pub one_more : (labels : ℕ) (places : List ℕ) (k place : ℕ) (old text more : List ℕ) → k < length places
    → place ≡ slice_index places k → text ≡ old ++ spaced_places labels (take k places)
    → more ≡ text ++ 32 ∷ place_word labels place
    → more ≡ old ++ spaced_places labels (take (k + 1) places)
one_more labels places k place old text more inside is so_far written =
    written ∙ ap (λ (t : List ℕ). t ++ 32 ∷ place_word labels place) so_far
    ∙ flat_map_more (λ w. 32 ∷ w) old (map (place_word labels) (take k places)) (place_word labels place)
    ∙ ap (λ (ws : List (List ℕ)). old ++ spaced_texts ws)
    (sym (map-append (place_word labels) (take k places) (place ∷ [])))
    ∙ ap (λ (l : List ℕ). old ++ spaced_places labels l)
    (ap (λ n. take k places ++ n ∷ []) is ∙ sym (take_more places k 0 inside))

pub all_places : (labels : ℕ) (places : List ℕ) (k : ℕ) (old text : List ℕ) → length places ≤ k
    → text ≡ old ++ spaced_places labels (take k places) → text ≡ old ++ spaced_places labels places
all_places labels places k old text whole is =
    is ∙ ap (λ (l : List ℕ). old ++ spaced_places labels l) (take_all k places whole)
