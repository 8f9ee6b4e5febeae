-- From the parts of a board to the fault of their text.
use Rattle.std.proofs.Common.{◌≡◌, ℕ, suc, ◌+◌, ◌^◌, ◌<◌, ◌≤◌, List, ◌∷◌, ◌++◌, length, All, get_or, take, drop, refl}
use Rattle.std.proofs.Common.{sym, ap, ◌∙◌, append_assoc, arith, take-append-drop, drop-cons, length-take-le}
use Rattle.std.specs.Prelude.{codes}
use Rattle.std.specs.List.{flat_map, AllByRecursion}
use Rattle.std.proofs.lemmas.List.Concat.{flat_map-append}
use Rattle.std.proofs.lemmas.List.Elements.{recursion_from_All}
use Rattle.board_text.specs.Ranges.{InRange, AreNumbers}
use Rattle.board_text.specs.PlainBoard.{PlainBoard, plain_board, IsBoard, ArePairs, AreLabels, version_of}
use Rattle.board_text.specs.BoardText.{version_line, labels_line, pebbles_line, start_line, beats_line, end_line}
use Rattle.board_text.specs.BoardText.{board_text}
use Rattle.board_text.specs.Inside.BoardText.{board_head}
use Rattle.board_text.specs.BoardFaults.{PairFault, HasBoardFault}
use Rattle.board_text.specs.Inside.PairFaults.{IsPairFault, HasPairFault}
use Rattle.board_text.specs.declared.fault.BoardFault.{BoardFault}
use Rattle.board_text.specs.declared.fault.BoardKind.{BoardKind}
use Rattle.board_text.specs.declared.fault.BoardKind.TheVariants.{Labels, Pebbles, Start, Beats, SelfBeat, TwoWay}
use Rattle.board_text.specs.declared.fault.BoardKind.TheVariants.{Order, Memory}
use Rattle.board_text.specs.declared.board.TheConstants.{MAX_LABELS, MAX_PEBBLES}
use Rattle.board_text.proofs.Lines.{number_line_unique}
use Rattle.board_text.proofs.PlaceLemmas.{places_line_unique}
use Rattle.board_text.proofs.BeatsLines.{same_line, not_end}
use Rattle.board_text.proofs.EndLines.{is_cut_pair}
use Rattle.board_text.proofs.Faults.{has_pair_fault}
use Rattle.board_text.proofs.Places.{start_from_numbers, version_in_range}

-- a misfit in a line of its own is a fault
pub misfit_fault : (labels : ℕ) (pairs : List (ℕ × ℕ)) (p : ℕ × ℕ) (rest more : List ℕ) (kind : BoardKind)
    → AreLabels labels p → rest ≡ beats_line p ++ more → IsPairFault labels pairs p kind
    → PairFault labels pairs rest kind
misfit_fault labels pairs p rest more Beats are e h = absurd (h.1 are)
misfit_fault labels pairs p rest more SelfBeat are e h =
    (p.0, ((are.0, are.0), more, e ∙ ap (λ (y : ℕ). beats_line (p.0, y) ++ more) (sym h.1)))
misfit_fault labels pairs p rest more TwoWay are e h = (p.0, p.1, (are, more, e), h.1, h.2)
misfit_fault labels pairs p rest more Order are e h = (p.0, p.1, (are, more, e), h.1, h.2, h.3)
misfit_fault labels pairs p rest more kind are e h = absurd h

-- ---- the first four lines

regroup : (a b c d e f : List ℕ) → ((a ++ (b ++ (c ++ d))) ++ e) ++ f ≡ a ++ (b ++ (c ++ (d ++ (e ++ f))))
regroup a b c d e f = simp append_assoc

spread : (b : PlainBoard)
    → board_text b ≡ version_line (version_of b.labels b.start)
    ++ (labels_line b.labels ++ (pebbles_line b.pebbles
    ++ (start_line b.labels b.start ++ (flat_map beats_line b.pairs ++ end_line))))
spread b = regroup (version_line (version_of b.labels b.start)) (labels_line b.labels) (pebbles_line b.pebbles)
    (start_line b.labels b.start) (flat_map beats_line b.pairs) end_line

pub labels_fault : (b : PlainBoard) → b.labels < 2 ^ 16 → (InRange 1 MAX_LABELS b.labels → ⊥)
    → HasBoardFault (board_text b) 2 Labels
labels_fault b small outside = (
  refl,
  version_of b.labels b.start,
  _,
  version_in_range b.labels b.start,
  spread b,
  λ n more in_range e.
      let s = number_line_unique (codes "labels") b.labels n
      (pebbles_line b.pebbles ++ (start_line b.labels b.start ++ (flat_map beats_line b.pairs ++ end_line))) more
      (omega arith) (omega (arith, in_range.1)) e in
      outside (rw s.0 in_range),
)

pub pebbles_fault : (b : PlainBoard) → InRange 1 MAX_LABELS b.labels → b.pebbles < 2 ^ 16
    → (InRange 1 MAX_PEBBLES b.pebbles → ⊥) → HasBoardFault (board_text b) 3 Pebbles
pebbles_fault b in_labels small outside = (
  refl,
  version_of b.labels b.start,
  b.labels,
  _,
  version_in_range b.labels b.start,
  in_labels,
  spread b,
  λ n more in_range e.
      let s = number_line_unique (codes "pebbles") b.pebbles n
      (start_line b.labels b.start ++ (flat_map beats_line b.pairs ++ end_line)) more (omega arith)
      (omega (arith, in_range.1)) e in
      outside (rw s.0 in_range),
)

pub memory_fault : (b : PlainBoard) → InRange 1 MAX_LABELS b.labels → InRange 1 MAX_PEBBLES b.pebbles
    → HasBoardFault (board_text b) 0 Memory
memory_fault b in_labels in_pebbles = (
  refl,
  version_of b.labels b.start,
  b.labels,
  b.pebbles,
  _,
  version_in_range b.labels b.start,
  in_labels,
  in_pebbles,
  spread b,
)

few_bits : (ns : List ℕ) → All (λ n. n < 2 ^ 16) ns → AllByRecursion (λ n. n < 2 ^ 32) ns
few_bits ns small =
    recursion_from_All (λ n. n < 2 ^ 32) ns (λ k d lt. let h : get_or ns k d < 2 ^ 16 = small k d lt in omega arith)

pub start_fault : (b : PlainBoard) → InRange 1 MAX_LABELS b.labels → InRange 1 MAX_PEBBLES b.pebbles
    → All (λ n. n < 2 ^ 16) b.start → (AreNumbers b.pebbles (b.labels + 1) b.start → ⊥)
    → HasBoardFault (board_text b) 4 Start
start_fault b in_labels in_pebbles small outside = (
  refl,
  version_of b.labels b.start,
  b.labels,
  b.pebbles,
  _,
  version_in_range b.labels b.start,
  in_labels,
  in_pebbles,
  spread b,
  λ ns more is e.
      let small_ns : All (λ n. n < 2 ^ 16) ns = λ k d lt. let h : get_or ns k d < b.labels + 1 = is.0.1 k d lt in
      omega (arith, h, in_labels.1) in
      outside (rw (places_line_unique b.labels (codes "start") b.start ns (flat_map beats_line b.pairs ++ end_line) more
      (few_bits b.start small) (few_bits ns small_ns) e).0 is.0),
)

-- ---- the pairs

no_pair_line : (labels : ℕ) (pairs : List (ℕ × ℕ)) (p : ℕ × ℕ) (rest more : List ℕ) → labels ≤ MAX_LABELS
    → rest ≡ beats_line p ++ more → AreLabels (2 ^ 16) p → (AreLabels labels p → ⊥) → PairFault labels pairs rest Beats
no_pair_line labels pairs p rest more few e small outside = (
  λ u x all f. not_end p more x (sym e ∙ f),
  λ cut. is_cut_pair p rest more e cut,
  λ q x are f.
      let s = same_line (2 ^ 16) p q more x (omega arith) small (omega (arith, are.0), omega (arith, are.1))
      (sym e ∙ f) in
      outside (rw s.0 are),
)

misfit_found : (labels : ℕ) (pairs : List (ℕ × ℕ)) (p : ℕ × ℕ) (rest more : List ℕ) (kind : BoardKind)
    → labels ≤ MAX_LABELS → rest ≡ beats_line p ++ more → IsPairFault labels pairs p kind
    → PairFault labels pairs rest kind
misfit_found labels pairs p rest more Beats few e h = no_pair_line labels pairs p rest more few e h.0 h.1
misfit_found labels pairs p rest more SelfBeat few e h = misfit_fault labels pairs p rest more SelfBeat h.0 e h
misfit_found labels pairs p rest more TwoWay few e h = misfit_fault labels pairs p rest more TwoWay h.0 e h
misfit_found labels pairs p rest more Order few e h = misfit_fault labels pairs p rest more Order h.0 e h
misfit_found labels pairs p rest more kind few e h = absurd h

five : (a b c d e : List ℕ) → (a ++ (b ++ (c ++ d))) ++ e ≡ (a ++ b) ++ (c ++ (d ++ e))
five a b c d e = simp append_assoc

cut_at : (a : List ℕ) (before : List (ℕ × ℕ)) (p : ℕ × ℕ) (after : List (ℕ × ℕ)) (z : List ℕ)
    → (a ++ flat_map beats_line (before ++ p ∷ after)) ++ z ≡ (a ++ flat_map beats_line before)
    ++ (beats_line p ++ (flat_map beats_line after ++ z))
cut_at a before p after z = rw (flat_map-append beats_line before (p ∷ after))
    (five a (flat_map beats_line before) (beats_line p) (flat_map beats_line after) z)

-- a misfit among the parts of a board is a fault of their text
pub parts_fault : (b : PlainBoard) (f : BoardFault) → InRange 1 MAX_LABELS b.labels → InRange 1 MAX_PEBBLES b.pebbles
    → AreNumbers b.pebbles (b.labels + 1) b.start → HasPairFault b.labels b.pairs f
    → HasBoardFault (board_text b) f.line f.kind
parts_fault b f in_labels in_pebbles are (before, p, after, are_before, parts, number, h) =
    let front_board = plain_board b.labels b.pebbles b.start before in
    let rest = beats_line p ++ (flat_map beats_line after ++ end_line) in
    let is : IsBoard front_board =
    record {
      labels = in_labels;
      pebbles = in_pebbles;
      start = start_from_numbers front_board are;
      pairs = are_before;
    } in
    has_pair_fault (board_text b) f.line f.kind front_board rest is
    (ap (λ (ps : List (ℕ × ℕ)). (board_head b.labels b.pebbles b.start ++ flat_map beats_line ps) ++ end_line) parts
    ∙ cut_at (board_head b.labels b.pebbles b.start) before p after end_line)
    number (misfit_found b.labels before p rest (flat_map beats_line after ++ end_line) f.kind in_labels.1 refl h)

-- the misfit at a place of the pairs, if those before it fit
pub misfit_at : (labels own : ℕ) (all so_far : List (ℕ × ℕ)) (place line : ℕ) (kind : BoardKind) (f : BoardFault)
    → own ≡ labels → place < length all → so_far ≡ take place all → ArePairs own so_far
    → f ≡ record { line = line; kind = kind } → line ≡ 5 + place → IsPairFault own so_far (get_or all place (0, 0)) kind
    → HasPairFault labels all f
misfit_at labels own all so_far place line kind f same lt taken are fault number h =
    let parts : all ≡ so_far ++ get_or all place (0, 0) ∷ drop (suc place) all =
    sym (take-append-drop place all) ∙ ap (λ (t : List (ℕ × ℕ)). take place all ++ t) (drop-cons all place (0, 0) lt)
    ∙ ap (λ (t : List (ℕ × ℕ)). t ++ get_or all place (0, 0) ∷ drop (suc place) all) (sym taken) in
    let count : line ≡ 5 + length so_far =
    omega (arith, number, ap length taken, length-take-le place all (omega arith)) in
    rw (← same, fault) (so_far, get_or all place (0, 0), drop (suc place) all, are, parts, count, h)
