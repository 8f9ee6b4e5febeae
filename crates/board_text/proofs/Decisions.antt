-- Whether a text begins with some form is decided by trying all its values.
use Rattle.std.proofs.Common.{◌≡◌, ℕ, zero, suc, ◌+◌, ◌<◌, ◌≤◌, ◌⊎◌, List, [], ◌∷◌, ◌++◌, length, get_or, take}
use Rattle.std.proofs.Common.{Contains, subst, refl, sym, ap, ◌∙◌, arith, inl, inr}
use Rattle.std.proofs.lemmas.Bool.{cases_lt, cases_eq}
use Rattle.std.proofs.lemmas.List.{nil_from_length, get_or_at, length_push, take_all, take_more}
use Rattle.std.proofs.lemmas.List.Elements.{All-nil, All-cons, All-head, All-tail}
use Rattle.board_text.specs.LineForms.{Lacks}
use Rattle.board_text.specs.Ranges.{InRange, AreNumbers}
use Rattle.board_text.specs.PlainBoard.{AreLabels, Precedes, IsNext, IsStart, version_of}
use Rattle.board_text.specs.BoardText.{start_line}

-- the fact or its negation
abbrev pub Decided : Type 0 → Type 0
Decided P = P ⊎ (P → ⊥)

pub both : (P Q : Type 0) → Decided P → Decided Q → Decided (P × Q)
both P Q (inl p) (inl q) = inl (p, q)
both P Q (inl p) (inr never) = inr (λ h. never h.1)
both P Q (inr never) q = inr (λ h. never h.0)

pub less : (m n : ℕ) → Decided (m < n)
less m n = elim (cases_lt m n) [ inl lt ↦ inl lt | inr le ↦ inr (λ h. omega arith) ]

pub at_most : (m n : ℕ) → Decided (m ≤ n)
at_most m n = elim (cases_lt n m) [ inl lt ↦ inr (λ h. omega arith) | inr le ↦ inl le ]

-- whether some number below n has a property
pub below : (n : ℕ) (P : ℕ → Type 0) → ((k : ℕ) → Decided (P k)) → Decided ((k : ℕ) × (k < n) × P k)
below zero P each = inr (λ h. omega (arith, h.1))
below (suc n) P each =
    elim (each n) [
      | inl p ↦ inl (n, omega arith, p)
      | inr never ↦ elim (below n P each) [
        | inl h ↦ inl (h.0, omega (arith, h.1), h.2)
        | inr none ↦ inr (λ h. elim (cases_eq h.0 n) [
          | inl e ↦ never (subst P e h.2)
          | inr other ↦ none (h.0, omega (arith, h.1, other), h.2)
        ])
      ]
    ]

no_list : (count bound : ℕ) (P : List ℕ → Type 0)
    → ((n : ℕ) × (n < bound) × ((ns : List ℕ) × AreNumbers count bound ns × P (n ∷ ns)) → ⊥) → (ns : List ℕ)
    → AreNumbers (suc count) bound ns → P ns → ⊥
no_list count bound P none [] are p = omega (arith, are.0)
no_list count bound P none (n ∷ ns) are p =
    none (
      n,
      All-head (λ k. k < bound) n ns are.1,
      (ns, (omega (arith, are.0), All-tail (λ k. k < bound) n ns are.1), p),
    )

-- whether some list of `count` numbers below a bound has a property
pub lists : (count bound : ℕ) (P : List ℕ → Type 0) → ((ns : List ℕ) → Decided (P ns))
    → Decided ((ns : List ℕ) × AreNumbers count bound ns × P ns)
lists zero bound P each =
    elim (each []) [
      | inl p ↦ inl ([], (refl, All-nil (λ k. k < bound)), p)
      | inr never ↦ inr (λ h. never (subst P (nil_from_length h.0 h.1.0) h.2))
    ]
lists (suc count) bound P each =
    elim (below bound (λ n. (ns : List ℕ) × AreNumbers count bound ns × P (n ∷ ns))
    (λ n. lists count bound (λ ns. P (n ∷ ns)) (λ ns. each (n ∷ ns)))) [
      | inl h ↦ inl (h.0 ∷ h.2.0, (omega (arith, h.2.1.0), All-cons (λ k. k < bound) h.0 h.2.0 h.1 h.2.1.1), h.2.2)
      | inr none ↦ inr (λ h. no_list count bound P none h.0 h.1 h.2)
    ]

-- whether a text begins with another
pub begins : (form text : List ℕ) → Decided ((more : List ℕ) × (text ≡ form ++ more))
begins [] text = inl (text, refl)
begins (x ∷ form) [] = inr (λ h. let e = h.1 in cc)
begins (x ∷ form) (y ∷ text) =
    elim (cases_eq y x) [
      | inl e ↦ elim (begins form text) [
        | inl h ↦ let f = h.1 in inl (h.0, cc)
        | inr never ↦ inr (λ h. let f = h.1 in never (h.0, cc))
      ]
      | inr other ↦ inr (λ h. let f = h.1 in let same : y ≡ x = cc in other same)
    ]

-- the text begins with one of these forms
pub record Stands (X : Type 0) (P : X → Type 0) (form : X → List ℕ) (text : List ℕ) : Type 0 where
  pub value : X
  pub more : List ℕ
  pub is : P value
  pub spelled : text ≡ form value ++ more

pub number_stands : (low high : ℕ) (form : ℕ → List ℕ) (text : List ℕ)
    → Stands ℕ (InRange low high) form text ⊎ Lacks (InRange low high) form text
number_stands low high form text =
    elim (below (high + 1) (λ n. (low ≤ n) × ((more : List ℕ) × (text ≡ form n ++ more)))
    (λ n. both (low ≤ n) ((more : List ℕ) × (text ≡ form n ++ more)) (at_most low n) (begins (form n) text))) [
      | inl h ↦ inl (record { value = h.0; more = h.2.1.0; is = (h.2.0, omega (arith, h.1)); spelled = h.2.1.1 })
      | inr none ↦ inr (λ n more is e. none (n, omega (arith, is.1), (is.0, (more, e))))
    ]

pub start_stands : (version labels pebbles : ℕ) (text : List ℕ)
    → Stands (List ℕ) (IsStart version labels pebbles) (start_line labels) text
    ⊎ Lacks (IsStart version labels pebbles) (start_line labels) text
start_stands version labels pebbles text =
    elim (lists pebbles (labels + 1)
    (λ ns. (version_of labels ns ≡ version) × ((more : List ℕ) × (text ≡ start_line labels ns ++ more)))
    (λ ns. both (version_of labels ns ≡ version) ((more : List ℕ) × (text ≡ start_line labels ns ++ more))
    (cases_eq (version_of labels ns) version) (begins (start_line labels ns) text))) [
      | inl h ↦ inl (record { value = h.0; more = h.2.1.0; is = (h.1, h.2.0); spelled = h.2.1.1 })
      | inr none ↦ inr (λ ns more is e. none (ns, is.0, (is.1, (more, e))))
    ]

pub pair_stands : (labels : ℕ) (form : ℕ × ℕ → List ℕ) (text : List ℕ)
    → Stands (ℕ × ℕ) (AreLabels labels) form text ⊎ Lacks (AreLabels labels) form text
pair_stands labels form text =
    elim (below labels (λ x. (y : ℕ) × (y < labels) × ((more : List ℕ) × (text ≡ form (x, y) ++ more)))
    (λ x. below labels (λ y. (more : List ℕ) × (text ≡ form (x, y) ++ more)) (λ y. begins (form (x, y)) text))) [
      | inl h ↦ inl (record { value = (h.0, h.2.0); more = h.2.2.0; is = (h.1, h.2.1); spelled = h.2.2.1 })
      | inr none ↦ inr (λ p more are e. none (p.0, are.0, (p.1, are.1, (more, e))))
    ]

-- ---- pairs

pair_is : (p q : ℕ × ℕ) → p.0 ≡ q.0 → p.1 ≡ q.1 → p ≡ q
pair_is p q first second = let e : ◌≡◌ {A = ℕ × ℕ} (p.0, p.1) q = rw (first, second) refl in e

same_pair : (p q : ℕ × ℕ) → Decided (p ≡ q)
same_pair p q =
    elim (cases_eq p.0 q.0) [
      | inl first ↦ elim (cases_eq p.1 q.1) [
        | inl second ↦ inl (pair_is p q first second)
        | inr other ↦ inr (λ e. other (ap (λ (r : ℕ × ℕ). r.1) e))
      ]
      | inr other ↦ inr (λ e. other (ap (λ (r : ℕ × ℕ). r.0) e))
    ]

pub contained : (pairs : List (ℕ × ℕ)) (p : ℕ × ℕ) → Decided (Contains pairs p)
contained pairs p =
    elim (below (length pairs) (λ k. get_or pairs k p ≡ p) (λ k. same_pair (get_or pairs k p) p)) [
      | inl h ↦ inl (h.0, h.1, h.2)
      | inr none ↦ inr (λ h. none (h.0, h.1, h.2))
    ]

precedes : (p q : ℕ × ℕ) → Decided (Precedes p q)
precedes p q =
    elim (less p.0 q.0) [
      | inl lt ↦ inl (inl lt)
      | inr never ↦ elim (both (p.0 ≡ q.0) (p.1 < q.1) (cases_eq p.0 q.0) (less p.1 q.1)) [
        | inl h ↦ inl (inr h)
        | inr none ↦ inr (λ h. elim h [ inl lt ↦ never lt | inr same ↦ none same ])
      ]
    ]

same_last : (xs ys : List (ℕ × ℕ)) (p q : ℕ × ℕ) → xs ++ p ∷ [] ≡ ys ++ q ∷ [] → p ≡ q
same_last xs ys p q e =
    let len : length ys ≡ length xs = omega (arith, ap length e, length_push xs p, length_push ys q) in
    sym (get_or_at xs p [] p (length xs) refl) ∙ ap (λ (ps : List (ℕ × ℕ)). get_or ps (length xs) p) e
    ∙ get_or_at ys q [] p (length xs) len

no_end : (before : List (ℕ × ℕ)) (last : ℕ × ℕ) → [] ≡ before ++ last ∷ [] → ⊥
no_end before last e =
    let len : 0 ≡ length (before ++ last ∷ []) = ap length e in omega (arith, len, length_push before last)

-- whether a pair comes after these
pub next : (pairs : List (ℕ × ℕ)) (p : ℕ × ℕ) → Decided (IsNext pairs p)
next [] p = inl (λ before last e. absurd (no_end before last e))
next (q ∷ pairs) p =
    let n = length pairs in
    let all = q ∷ pairs in
    let ends : all ≡ take n all ++ get_or all n q ∷ [] =
    sym (take_all (n + 1) all (omega arith)) ∙ take_more all n q (omega arith) in
    elim (precedes (get_or all n q) p) [
      | inl lt ↦ inl (λ before last e. subst (λ (r : ℕ × ℕ). Precedes r p)
          (same_last (take n all) before (get_or all n q) last (sym ends ∙ e)) lt)
      | inr never ↦ inr (λ h. never (h (take n all) (get_or all n q) ends))
    ]
