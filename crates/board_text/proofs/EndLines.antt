-- After its pairs a text has the line `end` or a fault, and one reading.
use Rattle.std.proofs.Common.{◌≡◌, ◌≢◌, ℕ, ◌+◌, ◌≤◌, List, [], ◌∷◌, ◌++◌, length, Contains, subst, refl, sym, ap, ◌∙◌}
use Rattle.std.proofs.Common.{arith, inl, inr}
use Rattle.std.proofs.lemmas.List.{append_cancel_left}
use Rattle.std.proofs.lemmas.List.Elements.{All-contains, Contains-append_left}
use Rattle.board_text.specs.LineForms.{Lacks}
use Rattle.board_text.specs.PlainBoard.{PlainBoard, ArePairs, AreLabels, IsNext}
use Rattle.board_text.specs.BoardText.{beats_line, end_line}
use Rattle.board_text.specs.BoardFaults.{NotEnd, IsCut, PairFault}
use Rattle.board_text.specs.declared.fault.BoardKind.{BoardKind}
use Rattle.board_text.specs.declared.fault.BoardKind.TheVariants.{Version, Labels, Pebbles, Start, Beats, SelfBeat}
use Rattle.board_text.specs.declared.fault.BoardKind.TheVariants.{TwoWay, Order, End, Trailing, Memory}
use Rattle.board_text.specs.declared.board.TheConstants.{MAX_LABELS}
use Rattle.board_text.proofs.BeatsLines.{same_line, not_end, not_cut, not_nothing, next_contained, is_next}

-- a finding: a board, or a fault at a line
pub data Finding : Type 0 where
  board : PlainBoard → Finding
  fault : ℕ → BoardKind → Finding

-- the reason why a pair can't follow these
pub data Unfit (pairs : List (ℕ × ℕ)) (p : ℕ × ℕ) (kind : BoardKind) : Type 0 where
  itself : p.0 ≡ p.1 → kind ≡ SelfBeat → Unfit pairs p kind
  back : p.0 ≢ p.1 → Contains pairs (p.1, p.0) → kind ≡ TwoWay → Unfit pairs p kind
  low : p.0 ≢ p.1 → (Contains pairs (p.1, p.0) → ⊥) → (IsNext pairs p → ⊥) → kind ≡ Order → Unfit pairs p kind

-- the finding by the bytes after `end`: the board if there are none, and else a fault
abbrev pub Behind : PlainBoard → List ℕ → Finding → Type 0
Behind b [] found = found ≡ board b
Behind b (c ∷ more) found = found ≡ fault (6 + length b.pairs) Trailing

-- the finding after the pairs of a board so far
pub data Ending (b : PlainBoard) (rest : List ℕ) (found : Finding) : Type 0 where
  at_end : (more : List ℕ) → rest ≡ end_line ++ more → Behind b more found → Ending b rest found
  at_cut : NotEnd rest → IsCut rest → found ≡ fault (5 + length b.pairs) End → Ending b rest found
  at_other : (IsCut rest → ⊥) → NotEnd rest → Lacks (AreLabels b.labels) beats_line rest
      → found ≡ fault (5 + length b.pairs) Beats → Ending b rest found
  at_pair : (p : ℕ × ℕ) (more : List ℕ) (kind : BoardKind) → AreLabels b.labels p → rest ≡ beats_line p ++ more
      → Unfit b.pairs p kind → found ≡ fault (5 + length b.pairs) kind → Ending b rest found

-- ---- one reading

same_unfit : (pairs : List (ℕ × ℕ)) (p : ℕ × ℕ) (k j : BoardKind) → Unfit pairs p k → Unfit pairs p j → k ≡ j
same_unfit pairs p k j (itself e f) (itself e' f') = f ∙ sym f'
same_unfit pairs p k j (itself e f) (back e' h f') = absurd (e' e)
same_unfit pairs p k j (itself e f) (low e' h g f') = absurd (e' e)
same_unfit pairs p k j (back e h f) (itself e' f') = absurd (e e')
same_unfit pairs p k j (back e h f) (back e' h' f') = f ∙ sym f'
same_unfit pairs p k j (back e h f) (low e' h' g f') = absurd (h' h)
same_unfit pairs p k j (low e h g f) (itself e' f') = absurd (e e')
same_unfit pairs p k j (low e h g f) (back e' h' f') = absurd (h h')
same_unfit pairs p k j (low e h g f) (low e' h' g' f') = f ∙ sym f'

same_behind : (b : PlainBoard) (more other : List ℕ) (v w : Finding) → more ≡ other → Behind b more v → Behind b other w
    → v ≡ w
same_behind b [] [] v w e p q = p ∙ sym q
same_behind b [] (c ∷ more) v w e p q = cc
same_behind b (c ∷ more) [] v w e p q = cc
same_behind b (c ∷ more) (d ∷ other) v w e p q = p ∙ sym q

pub is_cut_pair : (p : ℕ × ℕ) (rest more : List ℕ) → rest ≡ beats_line p ++ more → IsCut rest → ⊥
is_cut_pair p rest more e (inl none) = not_nothing p more (sym e ∙ none)
is_cut_pair p rest more e (inr letter) = not_cut p more letter.0 (sym e ∙ letter.1)

pub one_ending : (b : PlainBoard) (rest : List ℕ) (v w : Finding) → b.labels ≤ MAX_LABELS → Ending b rest v
    → Ending b rest w → v ≡ w
one_ending b rest v w few (at_end more e h) (at_end other f g) =
    same_behind b more other v w (append_cancel_left end_line more other (sym e ∙ f)) h g
one_ending b rest v w few (at_end more e h) (at_cut not c g) = absurd (not tt more tt e)
one_ending b rest v w few (at_end more e h) (at_other whole not l g) = absurd (not tt more tt e)
one_ending b rest v w few (at_end more e h) (at_pair p after k are f u g) = absurd (not_end p after more (sym f ∙ e))
one_ending b rest v w few (at_cut not c h) (at_end more e g) = absurd (not tt more tt e)
one_ending b rest v w few (at_cut not c h) (at_cut not' c' g) = h ∙ sym g
one_ending b rest v w few (at_cut not c h) (at_other whole not' l g) = absurd (whole c)
one_ending b rest v w few (at_cut not c h) (at_pair p after k are f u g) = absurd (is_cut_pair p rest after f c)
one_ending b rest v w few (at_other whole not l h) (at_end more e g) = absurd (not tt more tt e)
one_ending b rest v w few (at_other whole not l h) (at_cut not' c g) = absurd (whole c)
one_ending b rest v w few (at_other whole not l h) (at_other whole' not' l' g) = h ∙ sym g
one_ending b rest v w few (at_other whole not l h) (at_pair p after k are f u g) = absurd (l p after are f)
one_ending b rest v w few (at_pair p after k are f u h) (at_end more e g) = absurd (not_end p after more (sym f ∙ e))
one_ending b rest v w few (at_pair p after k are f u h) (at_cut not c g) = absurd (is_cut_pair p rest after f c)
one_ending b rest v w few (at_pair p after k are f u h) (at_other whole not l g) = absurd (l p after are f)
one_ending b rest v w few (at_pair p after k are f u h) (at_pair q after' j are' f' u' g) =
    let s = same_line b.labels p q after after' (omega arith) are are' (sym f ∙ f') in
    let same : k ≡ j = same_unfit b.pairs q k j (subst (λ (r : ℕ × ℕ). Unfit b.pairs r k) s.0 u) u' in
    h ∙ ap (λ (i : BoardKind). fault (5 + length b.pairs) i) same ∙ sym g

-- a pair that can't follow these isn't the next pair of a board
fits : (labels : ℕ) (pairs more : List (ℕ × ℕ)) (p : ℕ × ℕ) (kind : BoardKind) → ArePairs labels (pairs ++ p ∷ more)
    → Unfit pairs p kind → ⊥
fits labels pairs more p kind are (itself e f) =
    let here = next_contained pairs more p in
    are.one_way p.0 p.0 (subst (λ (y : ℕ). Contains (pairs ++ p ∷ more) (p.0, y)) (sym e) here)
    (subst (λ (y : ℕ). Contains (pairs ++ p ∷ more) (p.0, y)) (sym e) here)
fits labels pairs more p kind are (back e h f) =
    are.one_way p.0 p.1 (next_contained pairs more p) (Contains-append_left pairs (p ∷ more) (p.1, p.0) h)
fits labels pairs more p kind are (low e h g f) = g (is_next pairs more p are.ascending)

pub no_more : (b : PlainBoard) (rest : List ℕ) (found : Finding) (p : ℕ × ℕ) (pairs : List (ℕ × ℕ)) (more : List ℕ)
    → b.labels ≤ MAX_LABELS → ArePairs b.labels (b.pairs ++ p ∷ pairs) → rest ≡ beats_line p ++ more
    → Ending b rest found → ⊥
no_more b rest found p pairs more few are e (at_end behind f h) = not_end p more behind (sym e ∙ f)
no_more b rest found p pairs more few are e (at_cut not c h) = is_cut_pair p rest more e c
no_more b rest found p pairs more few are e (at_other whole not l h) =
    l p more (All-contains (AreLabels b.labels) (b.pairs ++ p ∷ pairs) p are.of_labels
    (next_contained b.pairs pairs p)) e
no_more b rest found p pairs more few are e (at_pair q after k are_q f u h) =
    let are_p : AreLabels b.labels p =
    All-contains (AreLabels b.labels) (b.pairs ++ p ∷ pairs) p are.of_labels (next_contained b.pairs pairs p) in
    let s = same_line b.labels q p after more (omega arith) are_q are_p (sym f ∙ e) in
    fits b.labels b.pairs pairs p k are (subst (λ (r : ℕ × ℕ). Unfit b.pairs r k) s.0 u)

-- a fault of the pairs is such an ending
pub pair_ending : (b : PlainBoard) (rest : List ℕ) (kind : BoardKind) → PairFault b.labels b.pairs rest kind
    → Ending b rest (fault (5 + length b.pairs) kind)
pair_ending b rest End h = at_cut h.0 h.1 refl
pair_ending b rest Beats h = at_other h.1 h.0 h.2 refl
pair_ending b rest SelfBeat h = at_pair (h.0, h.0) h.1.1 SelfBeat h.1.0 h.1.2 (itself refl refl) refl
pair_ending b rest TwoWay h = at_pair (h.0, h.1) h.2.1 TwoWay h.2.0 h.2.2 (back h.3 h.4 refl) refl
pair_ending b rest Order h = at_pair (h.0, h.1) h.2.1 Order h.2.0 h.2.2 (low h.3 h.4 h.5 refl) refl
pair_ending b rest Version h = absurd h
pair_ending b rest Labels h = absurd h
pair_ending b rest Pebbles h = absurd h
pair_ending b rest Start h = absurd h
pair_ending b rest Trailing h = absurd h
pair_ending b rest Memory h = absurd h
