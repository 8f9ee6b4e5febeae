-- A text is read in one way only: as one board, or with one fault.
use Rattle.std.proofs.Common.{◌≡◌, ◌≢◌, ℕ, ◌+◌, ◌≤◌, ◌⊎◌, List, [], ◌∷◌, ◌++◌, length, Result, Ok, Err, refl, subst}
use Rattle.std.proofs.Common.{sym, ap, ◌∙◌, append_assoc, arith, inl, inr}
use Rattle.std.specs.Prelude.{codes, IfOk, IfErr, MatchResult}
use Rattle.std.specs.List.{flat_map}
use Rattle.board_text.specs.Ranges.{InRange}
use Rattle.board_text.specs.LineForms.{Lacks}
use Rattle.board_text.specs.PlainBoard.{PlainBoard, plain_board, IsBoard, IsStart, ArePairs, version_of}
use Rattle.board_text.specs.BoardText.{version_line, labels_line, pebbles_line, start_line, beats_line, end_line}
use Rattle.board_text.specs.BoardText.{board_text_before_end, board_text}
use Rattle.board_text.specs.BoardFaults.{InPairs, HasBoardFault}
use Rattle.board_text.specs.declared.fault.BoardFault.{BoardFault}
use Rattle.board_text.specs.declared.fault.BoardKind.{BoardKind}
use Rattle.board_text.specs.declared.fault.BoardKind.TheVariants.{Version, Labels, Pebbles, Start, Beats, SelfBeat}
use Rattle.board_text.specs.declared.fault.BoardKind.TheVariants.{TwoWay, Order, End, Trailing, Memory}
use Rattle.board_text.specs.declared.board.TheConstants.{MAX_LABELS, MAX_PEBBLES}
use Rattle.board_text.proofs.Lines.{number_line_unique, small_numbers}
use Rattle.board_text.proofs.PlaceLemmas.{places_line_unique}
use Rattle.board_text.proofs.Places.{numbers_from_start, version_in_range}
use Rattle.board_text.proofs.BeatsLines.{same, more_right, more_left, aligned}
use Rattle.board_text.proofs.EndLines.{Finding, board, fault, Ending, at_end, one_ending, no_more, pair_ending}

-- the finding after the first lines of a text, and the finding of the whole text
abbrev AfterStart : ℕ → ℕ → List ℕ → List ℕ → Finding → Type 0
AfterStart labels pebbles start rest found =
    (pairs : List (ℕ × ℕ)) × (more : List ℕ) × ArePairs labels pairs × (rest ≡ flat_map beats_line pairs ++ more)
    × Ending (plain_board labels pebbles start pairs) more found

abbrev AfterPebbles : ℕ → ℕ → ℕ → List ℕ → Finding → Type 0
AfterPebbles version labels pebbles rest found =
    (Lacks (IsStart version labels pebbles) (start_line labels) rest × (found ≡ fault 4 Start))
    ⊎ ((start : List ℕ) × (more : List ℕ) × IsStart version labels pebbles start
    × (rest ≡ start_line labels start ++ more) × AfterStart labels pebbles start more found)

abbrev AfterLabels : ℕ → ℕ → List ℕ → Finding → Type 0
AfterLabels version labels rest found =
    (Lacks (InRange 1 MAX_PEBBLES) pebbles_line rest × (found ≡ fault 3 Pebbles))
    ⊎ ((pebbles : ℕ) × (more : List ℕ) × InRange 1 MAX_PEBBLES pebbles × (rest ≡ pebbles_line pebbles ++ more)
    × AfterPebbles version labels pebbles more found)

abbrev AfterVersion : ℕ → List ℕ → Finding → Type 0
AfterVersion version rest found =
    (Lacks (InRange 1 MAX_LABELS) labels_line rest × (found ≡ fault 2 Labels))
    ⊎ ((labels : ℕ) × (more : List ℕ) × InRange 1 MAX_LABELS labels × (rest ≡ labels_line labels ++ more)
    × AfterLabels version labels more found)

abbrev Reading : List ℕ → Finding → Type 0
Reading text found =
    (Lacks (InRange 1 2) version_line text × (found ≡ fault 1 Version))
    ⊎ ((version : ℕ) × (more : List ℕ) × InRange 1 2 version × (text ≡ version_line version ++ more)
    × AfterVersion version more found)

-- ---- one reading

one_after_start : (labels pebbles : ℕ) (start rest : List ℕ) (v w : Finding) → labels ≤ MAX_LABELS
    → AfterStart labels pebbles start rest v → AfterStart labels pebbles start rest w → v ≡ w
one_after_start labels pebbles start rest v w few (ps, x, are_ps, e, h) (qs, y, are_qs, f, g) =
    elim (aligned labels ps qs x y few are_ps are_qs (sym e ∙ f)) [
      | same same_pairs same_rest ↦ one_ending (plain_board labels pebbles start qs) y v w few
          (rw (← same_pairs, ← same_rest) h) g
      | more_right p more longer begins ↦
          absurd (no_more (plain_board labels pebbles start ps) x v p more _ few (rw longer at are_qs) begins h)
      | more_left p more longer begins ↦
          absurd (no_more (plain_board labels pebbles start qs) y w p more _ few (rw longer at are_ps) begins g)
    ]

one_after_pebbles : (version labels pebbles : ℕ) (rest : List ℕ) (v w : Finding) → labels ≤ MAX_LABELS
    → AfterPebbles version labels pebbles rest v → AfterPebbles version labels pebbles rest w → v ≡ w
one_after_pebbles version labels pebbles rest v w few (inl a) (inl b) = a.1 ∙ sym b.1
one_after_pebbles version labels pebbles rest v w few (inl a) (inr b) = absurd (a.0 b.0 b.1 b.2 b.3)
one_after_pebbles version labels pebbles rest v w few (inr a) (inl b) = absurd (b.0 a.0 a.1 a.2 a.3)
one_after_pebbles version labels pebbles rest v w few (inr a) (inr b) =
    let s = places_line_unique labels (codes "start") a.0 b.0 a.1 b.1
    (small_numbers (labels + 1) a.0 (omega (arith, few)) a.2.0.1)
    (small_numbers (labels + 1) b.0 (omega (arith, few)) b.2.0.1) (sym a.3 ∙ b.3) in
    one_after_start labels pebbles b.0 b.1 v w few (rw (← s.0, ← s.1) a.4) b.4

one_after_labels : (version labels : ℕ) (rest : List ℕ) (v w : Finding) → labels ≤ MAX_LABELS
    → AfterLabels version labels rest v → AfterLabels version labels rest w → v ≡ w
one_after_labels version labels rest v w few (inl a) (inl b) = a.1 ∙ sym b.1
one_after_labels version labels rest v w few (inl a) (inr b) = absurd (a.0 b.0 b.1 b.2 b.3)
one_after_labels version labels rest v w few (inr a) (inl b) = absurd (b.0 a.0 a.1 a.2 a.3)
one_after_labels version labels rest v w few (inr a) (inr b) =
    let s = number_line_unique (codes "pebbles") a.0 b.0 a.1 b.1 (omega (arith, a.2.1)) (omega (arith, b.2.1))
    (sym a.3 ∙ b.3) in
    one_after_pebbles version labels b.0 b.1 v w few (rw (← s.0, ← s.1) a.4) b.4

one_after_version : (version : ℕ) (rest : List ℕ) (v w : Finding) → AfterVersion version rest v
    → AfterVersion version rest w → v ≡ w
one_after_version version rest v w (inl a) (inl b) = a.1 ∙ sym b.1
one_after_version version rest v w (inl a) (inr b) = absurd (a.0 b.0 b.1 b.2 b.3)
one_after_version version rest v w (inr a) (inl b) = absurd (b.0 a.0 a.1 a.2 a.3)
one_after_version version rest v w (inr a) (inr b) =
    let s = number_line_unique (codes "labels") a.0 b.0 a.1 b.1 (omega (arith, a.2.1)) (omega (arith, b.2.1))
    (sym a.3 ∙ b.3) in
    one_after_labels version b.0 b.1 v w b.2.1
    (subst (λ l. AfterLabels version l b.1 v) s.0
    (subst (λ (more : List ℕ). AfterLabels version a.0 more v) s.1 a.4)) b.4

one_reading : (text : List ℕ) (v w : Finding) → Reading text v → Reading text w → v ≡ w
one_reading text v w (inl a) (inl b) = a.1 ∙ sym b.1
one_reading text v w (inl a) (inr b) = absurd (a.0 b.0 b.1 b.2 b.3)
one_reading text v w (inr a) (inl b) = absurd (b.0 a.0 a.1 a.2 a.3)
one_reading text v w (inr a) (inr b) =
    let s = number_line_unique (codes "board") a.0 b.0 a.1 b.1 (omega (arith, a.2.1)) (omega (arith, b.2.1))
    (sym a.3 ∙ b.3) in
    one_after_version b.0 b.1 v w (rw (← s.0, ← s.1) a.4) b.4

-- ---- faults and boards as readings

regroup : (a b c d e x : List ℕ) → ((a ++ (b ++ (c ++ d))) ++ e) ++ x ≡ a ++ (b ++ (c ++ (d ++ (e ++ x))))
regroup a b c d e x = simp append_assoc

read_on : (text : List ℕ) (b : PlainBoard) (rest : List ℕ) (found : Finding) → IsBoard b
    → text ≡ board_text_before_end b ++ rest → Ending b rest found → Reading text found
read_on text b rest found is e h =
    inr (
      version_of b.labels b.start,
      _,
      version_in_range b.labels b.start,
      e ∙ regroup (version_line (version_of b.labels b.start)) (labels_line b.labels) (pebbles_line b.pebbles)
          (start_line b.labels b.start) (flat_map beats_line b.pairs) rest,
      inr (
        b.labels,
        _,
        is.labels,
        refl,
        inr (
          b.pebbles,
          _,
          is.pebbles,
          refl,
          inr (
            b.start,
            _,
            (numbers_from_start b is.start, refl),
            refl,
            (b.pairs, rest, is.pairs, refl, h),
          ),
        ),
      ),
    )

board_reading : (text : List ℕ) (b : PlainBoard) → IsBoard b → text ≡ board_text b → Reading text (board b)
board_reading text b is e = read_on text b end_line (board b) is e (at_end [] refl refl)

pair_reading : (text : List ℕ) (line : ℕ) (kind : BoardKind) → InPairs text line kind → Reading text (fault line kind)
pair_reading text line kind (b, rest, is, e, number, h) =
    rw number (read_on text b rest (fault (5 + length b.pairs) kind) is e (pair_ending b rest kind h))

fault_reading : (text : List ℕ) (line : ℕ) (kind : BoardKind) → kind ≢ Memory → HasBoardFault text line kind
    → Reading text (fault line kind)
fault_reading text line Version not h = inl (h.1, ap (λ (l : ℕ). fault l Version) h.0)
fault_reading text line Labels not h = inr (h.1, h.2, h.3, h.4, inl (h.5, ap (λ (l : ℕ). fault l Labels) h.0))
fault_reading text line Pebbles not h =
    inr (h.1, _, h.4, h.6, inr (h.2, h.3, h.5, refl, inl (h.7, ap (λ (l : ℕ). fault l Pebbles) h.0)))
fault_reading text line Start not h =
    inr (
      h.1,
      _,
      h.5,
      h.8,
      inr (
        h.2,
        _,
        h.6,
        refl,
        inr (h.3, h.4, h.7, refl, inl (h.9, ap (λ (l : ℕ). fault l Start) h.0)),
      ),
    )
fault_reading text line Trailing not (b, first, more, is, e, number) =
    rw number (read_on text b (end_line ++ first ∷ more) (fault (6 + length b.pairs) Trailing) is
    (e ∙ append_assoc (board_text_before_end b) end_line (first ∷ more)) (at_end (first ∷ more) refl refl))
fault_reading text line Memory not h = absurd (not refl)
fault_reading text line Beats not h = pair_reading text line Beats h
fault_reading text line SelfBeat not h = pair_reading text line SelfBeat h
fault_reading text line TwoWay not h = pair_reading text line TwoWay h
fault_reading text line Order not h = pair_reading text line Order h
fault_reading text line End not h = pair_reading text line End h

-- ---- the laws

pub one_fault : (text : List ℕ) (line other_line : ℕ) (kind other_kind : BoardKind) → kind ≢ Memory
    → other_kind ≢ Memory → HasBoardFault text line kind → HasBoardFault text other_line other_kind
    → (line ≡ other_line) × (kind ≡ other_kind)
one_fault text line other_line kind other_kind not other_not h g =
    let e = one_reading text (fault line kind) (fault other_line other_kind) (fault_reading text line kind not h)
    (fault_reading text other_line other_kind other_not g) in
    (cc, cc)

pub one_board : (a b : PlainBoard) → IsBoard a → IsBoard b → board_text a ≡ board_text b → a ≡ b
one_board a b is_a is_b e =
    let same = one_reading (board_text a) (board a) (board b) (board_reading (board_text a) a is_a refl)
    (board_reading (board_text a) b is_b e) in
    cc

pub not_both : (text : List ℕ) (line : ℕ) (kind : BoardKind) (b : PlainBoard) → IsBoard b → text ≡ board_text b
    → kind ≢ Memory → HasBoardFault text line kind → ⊥
not_both text line kind b is e not h =
    let same = one_reading text (board b) (fault line kind) (board_reading text b is e)
    (fault_reading text line kind not h) in
    cc

is_memory : (kind : BoardKind) → (kind ≡ Memory) ⊎ (kind ≢ Memory)
is_memory Version = inr (λ e. cc)
is_memory Labels = inr (λ e. cc)
is_memory Pebbles = inr (λ e. cc)
is_memory Start = inr (λ e. cc)
is_memory Beats = inr (λ e. cc)
is_memory SelfBeat = inr (λ e. cc)
is_memory TwoWay = inr (λ e. cc)
is_memory Order = inr (λ e. cc)
is_memory End = inr (λ e. cc)
is_memory Trailing = inr (λ e. cc)
is_memory Memory = inl refl

pub no_fault : (text : List ℕ) (line : ℕ) (kind : BoardKind) (b : PlainBoard) → IsBoard b → text ≡ board_text b
    → HasBoardFault text line kind → kind ≡ Memory
no_fault text line kind b is e h =
    elim (is_memory kind) [ inl none ↦ none | inr not ↦ absurd (not_both text line kind b is e not h) ]

-- a board read from the text of a board is that board
pub only : (text : List ℕ) (b : PlainBoard) (r : Result PlainBoard BoardFault)
    → IfOk r (λ a. IsBoard a × (text ≡ board_text a)) → IfErr r (λ f. HasBoardFault text f.line f.kind) → IsBoard b
    → text ≡ board_text b → MatchResult r (λ a. a ≡ b) (λ f. f.kind ≡ Memory)
only text b (Ok a) found has_fault is e = one_board a b found.0 is (sym found.1 ∙ e)
only text b (Err f) found has_fault is e = no_fault text f.line f.kind b is e has_fault

-- a board built from the parts of a board is that board
pub only_parts : (b : PlainBoard) (r : Result PlainBoard BoardFault) → IfOk r (λ a. IsBoard a × (a ≡ b))
    → IfErr r (λ f. HasBoardFault (board_text b) f.line f.kind) → IsBoard b
    → MatchResult r (λ a. a ≡ b) (λ f. f.kind ≡ Memory)
only_parts b (Ok a) found has_fault is = found.1
only_parts b (Err f) found has_fault is = no_fault (board_text b) f.line f.kind b is refl has_fault
