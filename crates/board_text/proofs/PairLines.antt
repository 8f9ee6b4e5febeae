-- The lines of the pairs that rows have, one after the other.
use Rattle.std.proofs.Common.{◌≡◌, ℕ, ◌+◌, ◌/◌, ◌%◌, Bool, true, false, List, [], ◌∷◌, ◌++◌, refl, sym, ap, ◌∙◌}
use Rattle.std.proofs.Common.{add-one, append_assoc}
use Rattle.std.specs.Prelude.{codes}
use Rattle.std.specs.Fmt.{decimal}
use Rattle.std.specs.List.{flat_map}
use Rattle.std.proofs.lemmas.List.{append-nil, flat_map_more}
use Rattle.board_text.specs.BoardText.{beats_line}
use Rattle.board_text.specs.Inside.Domination.{pairs_below, pair_at}

-- the lines so far, after an old text
abbrev pub Lines : ℕ → (ℕ → Bool) → ℕ → List ℕ → List ℕ
Lines labels marks place old = old ++ flat_map beats_line (pairs_below labels marks place)

pub lines-zero : (labels : ℕ) (marks : ℕ → Bool) (old : List ℕ) → old ≡ Lines labels marks 0 old
unfolding pairs_below
lines-zero labels marks old = sym (append-nil old)

two_numbers : (word x y : List ℕ)
    → word ++ 32 ∷ (x ++ (32 ∷ (y ++ (10 ∷ [])))) ≡ (word ++ 32 ∷ (x ++ 32 ∷ (y ++ []))) ++ 10 ∷ []
two_numbers word x y =
    let inner : x ++ (32 ∷ (y ++ (10 ∷ []))) ≡ (x ++ 32 ∷ y) ++ 10 ∷ [] = sym (append_assoc x (32 ∷ y) (10 ∷ [])) in
    rw (append-nil y) (ap (λ (t : List ℕ). word ++ 32 ∷ t) inner
    ∙ sym (append_assoc word (32 ∷ (x ++ 32 ∷ y)) (10 ∷ [])))

beats_written : (x y : ℕ) → codes "beats " ++ (decimal x ++ (32 ∷ (decimal y ++ (10 ∷ [])))) ≡ beats_line (x, y)
beats_written x y = two_numbers (codes "beats") (decimal x) (decimal y)

pub lines-marked : (labels : ℕ) (marks : ℕ → Bool) (place : ℕ) (old text new : List ℕ) → marks place ≡ true
    → text ≡ Lines labels marks place old
    → new ≡ text ++ (codes "beats " ++ (decimal (place / labels) ++ (32 ∷ (decimal (place % labels) ++ (10 ∷ [])))))
    → new ≡ Lines labels marks (place + 1) old
unfolding pairs_below
lines-marked labels marks place old text new marked e f =
    let pairs = pairs_below labels marks place in
    let line = beats_line (pair_at labels place) in
    let more : pairs_below labels marks (place + 1) ≡ pairs ++ pair_at labels place ∷ [] = rw (add-one, marked) refl in
    f ∙ ap (λ (t : List ℕ). text ++ t) (beats_written (place / labels) (place % labels))
    ∙ ap (λ (t : List ℕ). t ++ line) e
    ∙ flat_map_more beats_line old pairs (pair_at labels place)
    ∙ ap (λ (ps : List (ℕ × ℕ)). old ++ flat_map beats_line ps) (sym more)

pub lines-unmarked : (labels : ℕ) (marks : ℕ → Bool) (place : ℕ) (old text : List ℕ) → marks place ≡ false
    → text ≡ Lines labels marks place old
    → text ≡ Lines labels marks (place + 1) old
unfolding pairs_below
lines-unmarked labels marks place old text unmarked e =
    let pairs = pairs_below labels marks place in
    let same : pairs_below labels marks (place + 1) ≡ pairs = rw (add-one, unmarked) (append-nil pairs) in
    e ∙ ap (λ (ps : List (ℕ × ℕ)). old ++ flat_map beats_line ps) (sym same)
