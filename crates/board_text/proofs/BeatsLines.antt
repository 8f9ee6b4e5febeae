-- The `beats` lines at the beginning of a text have one reading.
use Rattle.std.proofs.Common.{◌≡◌, ℕ, ◌+◌, ◌^◌, ◌<◌, ◌≤◌, List, [], ◌∷◌, ◌++◌, length, get_or, Contains, AllPairs, refl}
use Rattle.std.proofs.Common.{sym, ap, ◌∙◌, append_assoc, arith}
use Rattle.std.specs.List.{flat_map, AllByRecursion}
use Rattle.std.specs.Prelude.{codes}
use Rattle.std.proofs.lemmas.List.{length-append, get_or_at}
use Rattle.std.proofs.lemmas.List.Elements.{recursion_from_All, All-cons, All-nil, Contains-append_right}
use Rattle.board_text.specs.Ranges.{AreNumbers}
use Rattle.board_text.specs.PlainBoard.{ArePairs, AreLabels, Precedes, IsNext}
use Rattle.board_text.specs.BoardText.{beats_line, end_line}
use Rattle.board_text.specs.declared.board.TheConstants.{MAX_LABELS}
use Rattle.board_text.proofs.Lines.{numbers_line_unique}

are_two : (labels : ℕ) (p : ℕ × ℕ) → AreLabels labels p → AreNumbers 2 labels (p.0 ∷ p.1 ∷ [])
are_two labels p are = (
  refl,
  All-cons (λ n. n < labels) p.0 (p.1 ∷ []) (omega (arith, are.0))
      (All-cons (λ n. n < labels) p.1 [] (omega (arith, are.1)) (All-nil (λ n. n < labels))),
)

same_pair : (a b c d : ℕ) → (a ∷ b ∷ []) ≡ (c ∷ d ∷ []) → ◌≡◌ {A = ℕ × ℕ} (a, b) (c, d)
same_pair a b c d e = let x : a ≡ c = cc in let y : b ≡ d = cc in rw (x, y) refl

-- a line has one pair
pub same_line : (labels : ℕ) (p q : ℕ × ℕ) (x y : List ℕ) → labels ≤ 2 ^ 32 → AreLabels labels p → AreLabels labels q
    → beats_line p ++ x ≡ beats_line q ++ y → (p ≡ q) × (x ≡ y)
same_line labels p q x y bound are_p are_q e =
    let s = numbers_line_unique 2 labels (codes "beats") (p.0 ∷ p.1 ∷ []) (q.0 ∷ q.1 ∷ []) x y (omega arith)
    (are_two labels p are_p) (are_two labels q are_q) e in
    (same_pair p.0 p.1 q.0 q.1 s.0, s.1)

-- a `beats` line isn't the line `end`
pub not_end : (p : ℕ × ℕ) (x y : List ℕ) → beats_line p ++ x ≡ end_line ++ y → ⊥
not_end p x y e = cc

pub not_cut : (p : ℕ × ℕ) (x y : List ℕ) → beats_line p ++ x ≡ 101 ∷ y → ⊥
not_cut p x y e = let heads : 98 ≡ 101 = ap (λ (t : List ℕ). get_or t 0 0) e in omega (arith, heads)

pub not_nothing : (p : ℕ × ℕ) (x : List ℕ) → beats_line p ++ x ≡ [] → ⊥
not_nothing p x e = cc

cons_assoc : (p : ℕ × ℕ) (ps : List (ℕ × ℕ)) (x : List ℕ)
    → flat_map beats_line (p ∷ ps) ++ x ≡ beats_line p ++ (flat_map beats_line ps ++ x)
cons_assoc p ps x = append_assoc (beats_line p) (flat_map beats_line ps) x

-- If a text begins with the lines of two lists of pairs, one list is a prefix of the other.
pub data Aligned (ps qs : List (ℕ × ℕ)) (x y : List ℕ) : Type 0 where
  same : ps ≡ qs → x ≡ y → Aligned ps qs x y
  more_right : (p : ℕ × ℕ) (more : List (ℕ × ℕ)) → qs ≡ ps ++ p ∷ more
      → x ≡ beats_line p ++ (flat_map beats_line more ++ y) → Aligned ps qs x y
  more_left : (p : ℕ × ℕ) (more : List (ℕ × ℕ)) → ps ≡ qs ++ p ∷ more
      → y ≡ beats_line p ++ (flat_map beats_line more ++ x) → Aligned ps qs x y

one_before : (p : ℕ × ℕ) (q : ℕ × ℕ) (ps qs : List (ℕ × ℕ)) (x y : List ℕ) → p ≡ q → Aligned ps qs x y
    → Aligned (p ∷ ps) (q ∷ qs) x y
one_before p q ps qs x y e (same f g) = same (cc) g
one_before p q ps qs x y e (more_right r more f g) = more_right r more (cc) g
one_before p q ps qs x y e (more_left r more f g) = more_left r more (cc) g

aligned_all : (labels : ℕ) (ps qs : List (ℕ × ℕ)) (x y : List ℕ) → labels ≤ 2 ^ 32
    → AllByRecursion (AreLabels labels) ps → AllByRecursion (AreLabels labels) qs
    → flat_map beats_line ps ++ x ≡ flat_map beats_line qs ++ y → Aligned ps qs x y
aligned_all labels [] [] x y bound are_ps are_qs e = same refl e
aligned_all labels [] (q ∷ qs) x y bound are_ps are_qs e = more_right q qs refl (e ∙ cons_assoc q qs y)
aligned_all labels (p ∷ ps) [] x y bound are_ps are_qs e = more_left p ps refl (sym e ∙ cons_assoc p ps x)
aligned_all labels (p ∷ ps) (q ∷ qs) x y bound are_ps are_qs e =
    let s = same_line labels p q (flat_map beats_line ps ++ x) (flat_map beats_line qs ++ y) bound are_ps.0 are_qs.0
    (sym (cons_assoc p ps x) ∙ e ∙ cons_assoc q qs y) in
    one_before p q ps qs x y s.0 (aligned_all labels ps qs x y bound are_ps.1 are_qs.1 s.1)

pub aligned : (labels : ℕ) (ps qs : List (ℕ × ℕ)) (x y : List ℕ) → labels ≤ MAX_LABELS → ArePairs labels ps
    → ArePairs labels qs
    → flat_map beats_line ps ++ x ≡ flat_map beats_line qs ++ y → Aligned ps qs x y
aligned labels ps qs x y bound are_ps are_qs e =
    aligned_all labels ps qs x y (omega arith) (recursion_from_All (AreLabels labels) ps are_ps.of_labels)
    (recursion_from_All (AreLabels labels) qs are_qs.of_labels) e

-- ---- the pair after some pairs

pub next_contained : (pairs more : List (ℕ × ℕ)) (p : ℕ × ℕ) → Contains (pairs ++ p ∷ more) p
next_contained pairs more p = Contains-append_right pairs (p ∷ more) p (0, omega arith, refl)

pub is_next : (pairs more : List (ℕ × ℕ)) (p : ℕ × ℕ) → AllPairs Precedes (pairs ++ p ∷ more) → IsNext pairs p
is_next pairs more p ascending before last e =
    let whole : pairs ++ p ∷ more ≡ before ++ last ∷ (p ∷ more) =
    ap (λ (ps : List (ℕ × ℕ)). ps ++ p ∷ more) e ∙ append_assoc before (last ∷ []) (p ∷ more) in
    let len : length pairs ≡ length before + 1 = omega (arith, ap length e, length-append before (last ∷ [])) in
    let h = ascending (length before) (length pairs) p (omega arith) (omega (arith, length-append pairs (p ∷ more))) in
    let at_last = ap (λ (ps : List (ℕ × ℕ)). get_or ps (length before) p) whole
    ∙ get_or_at before last (p ∷ more) p (length before) refl in
    rw (at_last, get_or_at pairs p more p (length pairs) refl) at h
