-- The pairs at the marked places; the place `x * labels + y` is that of x beating y.
use Rattle.std.proofs.Common.{◌≡◌, ◌≢◌, ℕ, zero, suc, ◌+◌, ◌*◌, ◌/◌, ◌%◌, ◌<◌, ◌≤◌, Bool, true, false, cond, List, []}
use Rattle.std.proofs.Common.{◌∷◌, ◌++◌, length, Contains, refl, sym, ap, ◌∙◌, arith, inl, inr}
use Rattle.std.proofs.lemmas.Bool.{cases_lt, cases_eq, cases_Bool, cases_order, cond_both}
use Rattle.std.proofs.lemmas.List.{append-nil, length-append}
use Rattle.std.proofs.lemmas.List.Elements.{Contains-push, Contains-append_left, Contains-push_cases}
use Rattle.std.proofs.lemmas.Nat.{div-mul-add, mod-mul-add, mod_below, row_fits, div-add-mod'}
use Rattle.board_text.specs.PlainBoard.{Precedes}
use Rattle.board_text.specs.Inside.Domination.{pairs_below, pair_at}

-- no place from `low` to below `high` is marked
abbrev pub NoMarks : (ℕ → Bool) → ℕ → ℕ → Type 0
NoMarks marks low high = (place : ℕ) → low ≤ place → place < high → marks place ≡ false

same_below : (labels : ℕ) (old new : ℕ → Bool) (n : ℕ) → ((place : ℕ) → place < n → new place ≡ old place)
    → pairs_below labels new n ≡ pairs_below labels old n
unfolding pairs_below
same_below labels old new zero same = refl
same_below labels old new (suc n) same =
    rw (same_below labels old new n (λ place lt. same place (omega arith)), same n (omega arith)) refl

nothing_above : (labels : ℕ) (marks : ℕ → Bool) (k n : ℕ) → k ≤ n → NoMarks marks k n
    → pairs_below labels marks n ≡ pairs_below labels marks k
unfolding pairs_below
nothing_above labels marks k zero le clear = let e : zero ≡ k = omega arith in ap (pairs_below labels marks) e
nothing_above labels marks k (suc n) le clear =
    elim (cases_lt n k) [
      | inl lt ↦ let e : suc n ≡ k = omega arith in ap (pairs_below labels marks) e
      | inr above ↦ rw (clear n above (omega arith))
          (append-nil (pairs_below labels marks n)
          ∙ nothing_above labels marks k n above (λ place low high. clear place low (omega arith)))
    ]

-- a mark above all others adds its pair at the end
pub pairs_more : (labels : ℕ) (old new : ℕ → Bool) (k n : ℕ) → k < n → new k ≡ true
    → ((place : ℕ) → place < n → place ≢ k → new place ≡ old place) → NoMarks old k n
    → pairs_below labels new n ≡ pairs_below labels old n ++ pair_at labels k ∷ []
unfolding pairs_below
pairs_more labels old new k n lt marked same clear =
    let up : pairs_below labels new n ≡ pairs_below labels new (suc k) =
    nothing_above labels new (suc k) n (omega arith)
    (λ place low high. let ne : place ≢ k = omega arith in same place high ne ∙ clear place (omega arith) high) in
    let one : pairs_below labels new (suc k) ≡ pairs_below labels new k ++ pair_at labels k ∷ [] = rw marked refl in
    let low : pairs_below labels new k ≡ pairs_below labels old n =
    same_below labels old new k (λ place below. let ne : place ≢ k = omega arith in same place (omega arith) ne)
    ∙ sym (nothing_above labels old k n (omega arith) clear) in
    up ∙ one ∙ ap (λ (ps : List (ℕ × ℕ)). ps ++ pair_at labels k ∷ []) low

pub pairs_none : (labels : ℕ) (marks : ℕ → Bool) (n : ℕ) → NoMarks marks 0 n → pairs_below labels marks n ≡ []
unfolding pairs_below
pairs_none labels marks n clear = nothing_above labels marks 0 n (omega arith) clear

-- ---- the pairs of the marks

pub has_mark : (labels : ℕ) (marks : ℕ → Bool) (n x y : ℕ) → y < labels → x * labels + y < n
    → marks (x * labels + y) ≡ true → Contains (pairs_below labels marks n) (x, y)
unfolding pairs_below
has_mark labels marks zero x y small lt marked = absurd (omega arith)
has_mark labels marks (suc n) x y small lt marked =
    elim (cases_eq (x * labels + y) n) [
      | inl same ↦
          let here : marks n ≡ true = rw same at marked in
          let pair : pair_at labels n ≡ (x, y) =
          rw (← same, div-mul-add x labels y small, mod-mul-add x labels y small) refl in
          rw (here, pair) (Contains-push (pairs_below labels marks n) (x, y))
      | inr other ↦ Contains-append_left (pairs_below labels marks n) (cond (marks n) (pair_at labels n ∷ []) []) (x, y)
          (has_mark labels marks n x y small (omega arith) marked)
    ]

pub record IsMarked (labels : ℕ) (marks : ℕ → Bool) (n x y : ℕ) : Type 0 where
  pub below : x * labels + y < n
  pub mark : marks (x * labels + y) ≡ true
  pub small : y < labels

marked_at : (labels : ℕ) (marks : ℕ → Bool) (n x y : ℕ) → 0 < labels → marks n ≡ true → pair_at labels n ≡ (x, y)
    → IsMarked labels marks (suc n) x y
marked_at labels marks n x y positive marked e =
    let ex : n / labels ≡ x = ap (λ (p : ℕ × ℕ). p.0) e in
    let ey : n % labels ≡ y = ap (λ (p : ℕ × ℕ). p.1) e in
    let place : x * labels + y ≡ n = rw (← ex, ← ey) (div-add-mod' n labels) in
    record { below = omega (arith, place); mark = rw place marked; small = rw (← ey) (mod_below n labels positive) }

pub is_marked : (labels : ℕ) (marks : ℕ → Bool) (n x y : ℕ) → 0 < labels → Contains (pairs_below labels marks n) (x, y)
    → IsMarked labels marks n x y
unfolding pairs_below
is_marked labels marks zero x y positive h = absurd (omega (arith, h.1))
is_marked labels marks (suc n) x y positive h =
    elim (cases_Bool (marks n)) [
      | inl on ↦
          let h' : Contains (pairs_below labels marks n ++ pair_at labels n ∷ []) (x, y) = rw on at h in
          elim (Contains-push_cases (pairs_below labels marks n) (pair_at labels n) (x, y) h') [
            | inl old ↦ let m = is_marked labels marks n x y positive old in
                record { below = omega (arith, m.below); mark = m.mark; small = m.small }
            | inr new ↦ marked_at labels marks n x y positive on new
          ]
      | inr off ↦
          let h' : Contains (pairs_below labels marks n) (x, y) =
          rw (off, append-nil (pairs_below labels marks n)) at h in
          let m = is_marked labels marks n x y positive h' in
          record { below = omega (arith, m.below); mark = m.mark; small = m.small }
    ]

pub few_pairs : (labels : ℕ) (marks : ℕ → Bool) (n : ℕ) → length (pairs_below labels marks n) ≤ n
unfolding pairs_below
few_pairs labels marks zero = omega arith
few_pairs labels marks (suc n) =
    let h = few_pairs labels marks n in
    cond_both (marks n) (pair_at labels n ∷ []) [] (λ ps. length (pairs_below labels marks n ++ ps) ≤ suc n)
    (λ e. omega (arith, h, length-append (pairs_below labels marks n) (pair_at labels n ∷ [])))
    (λ e. omega (arith, h, length-append (pairs_below labels marks n) []))

-- ---- places and the order of pairs

pub place_grows : (labels : ℕ) (p q : ℕ × ℕ) → p.1 < labels → Precedes p q → p.0 * labels + p.1 < q.0 * labels + q.1
place_grows labels p q small (inl lt) = omega (arith, row_fits p.0 labels q.0 labels lt (omega arith))
place_grows labels p q small (inr same) = omega (arith, same.1, ap (λ (a : ℕ). a * labels) same.0)

pub precedes_from_place : (labels : ℕ) (p q : ℕ × ℕ) → q.1 < labels → p.0 * labels + p.1 < q.0 * labels + q.1
    → Precedes p q
precedes_from_place labels p q small lt =
    elim (cases_order p.0 q.0) [
      | inl same ↦ inr (same, omega (arith, lt, ap (λ (a : ℕ). a * labels) same))
      | inr differ ↦ elim differ [
        | inl less ↦ inl less
        | inr more ↦ absurd (omega (arith, lt, row_fits q.0 labels p.0 labels more (omega arith)))
      ]
    ]
