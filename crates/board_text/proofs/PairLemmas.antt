-- One more pair, and one more line.
use Rattle.std.proofs.Common.{◌≡◌, ◌≢◌, ℕ, ◌+◌, ◌-◌, ◌<◌, List, [], ◌∷◌, ◌++◌, length, get_or, take, Contains, AllPairs}
use Rattle.std.proofs.Common.{sym, ap, ◌∙◌, arith, inl, inr, append_assoc}
use Rattle.std.specs.List.{flat_map}
use Rattle.std.proofs.lemmas.Bool.{cases_lt}
use Rattle.std.proofs.lemmas.List.{take_all, take_more, flat_map_more}
use Rattle.std.proofs.lemmas.List.Elements.{All-push, Contains-push_cases}
use Rattle.std.proofs.lemmas.List.Quantifiers.{all_pairs_push}
use Rattle.board_text.specs.PlainBoard.{Precedes, ArePairs, AreLabels, IsNext}
use Rattle.board_text.specs.BoardText.{beats_line}
use Rattle.board_text.specs.Inside.Parsing.{CanFollow}

below_trans : (p q r : ℕ × ℕ) → Precedes p q → Precedes q r → Precedes p r
below_trans p q r (inl a) (inl b) = inl (omega arith)
below_trans p q r (inl a) (inr b) = inl (omega (arith, b.0))
below_trans p q r (inr a) (inl b) = inl (omega (arith, a.0))
below_trans p q r (inr a) (inr b) = inr (a.0 ∙ b.0, omega (arith, a.1, b.1))

-- a pair that is greater than the last is greater than all
above_all : (pairs : List (ℕ × ℕ)) (p : ℕ × ℕ) → AllPairs Precedes pairs → IsNext pairs p → (k : ℕ) (d : ℕ × ℕ)
    → k < length pairs → Precedes (get_or pairs k d) p
above_all pairs p ascending above k d lt =
    let n = length pairs - 1 in
    let ends : pairs ≡ take n pairs ++ get_or pairs n d ∷ [] =
    sym (take_all (n + 1) pairs (omega arith)) ∙ take_more pairs n d (omega arith) in
    let last : Precedes (get_or pairs n d) p = above (take n pairs) (get_or pairs n d) ends in
    elim (cases_lt k n) [
      | inl before ↦ below_trans (get_or pairs k d) (get_or pairs n d) p (ascending k n d before (omega arith)) last
      | inr at ↦ let same : k ≡ n = omega arith in rw same last
    ]

one_way_push : (pairs : List (ℕ × ℕ)) (p : ℕ × ℕ) → p.0 ≢ p.1 → (Contains pairs (p.1, p.0) → ⊥)
    → ((x y : ℕ) → Contains pairs (x, y) → Contains pairs (y, x) → ⊥)
    → (x y : ℕ) → Contains (pairs ++ p ∷ []) (x, y) → Contains (pairs ++ p ∷ []) (y, x) → ⊥
one_way_push pairs p differ back old x y h g =
    elim (Contains-push_cases pairs p (x, y) h) [
      | inl h' ↦ elim (Contains-push_cases pairs p (y, x) g) [
        | inl g' ↦ old x y h' g'
        | inr e ↦ back (rw e h')
      ]
      | inr e ↦ elim (Contains-push_cases pairs p (y, x) g) [
        | inl g' ↦ back (rw e g')
        | inr e' ↦ differ (ap (λ (q : ℕ × ℕ). q.0) e ∙ sym (ap (λ (q : ℕ × ℕ). q.1) e'))
      ]
    ]

pub pairs_push : (labels : ℕ) (pairs : List (ℕ × ℕ)) (p : ℕ × ℕ) → ArePairs labels pairs → CanFollow labels pairs p
    → ArePairs labels (pairs ++ p ∷ [])
pairs_push labels pairs p are can = record {
  of_labels = All-push (AreLabels labels) pairs p are.of_labels can.in_range;
  ascending = all_pairs_push Precedes pairs p are.ascending (above_all pairs p are.ascending can.above);
  one_way = one_way_push pairs p can.differ can.one_way are.one_way;
}

pub line_push : (pairs : List (ℕ × ℕ)) (p : ℕ × ℕ) (old rest new : List ℕ) → old ≡ flat_map beats_line pairs ++ rest
    → rest ≡ beats_line p ++ new → old ≡ flat_map beats_line (pairs ++ p ∷ []) ++ new
line_push pairs p old rest new e f =
    e ∙ ap (λ (t : List ℕ). flat_map beats_line pairs ++ t) f
    ∙ sym (append_assoc (flat_map beats_line pairs) (beats_line p) new)
    ∙ ap (λ (t : List ℕ). t ++ new) (flat_map_more beats_line [] pairs p)
