-- Places of pebbles: a label, or none.
use Rattle.std.proofs.Common.{◌≡◌, ℕ, ◌+◌, ◌-◌, ◌<◌, ◌≤◌, ◌==◌, if◌then◌else◌, Bool, List, All, get_or, ap, arith, inl}
use Rattle.std.proofs.Common.{inr}
use Rattle.std.proofs.lemmas.Bool.{cases_eq, cond_both, both_ways, eq-eqb}
use Rattle.std.proofs.lemmas.List.Folds.{list_any_at}
use Rattle.board_text.specs.Ranges.{InRange, AreNumbers}
use Rattle.board_text.specs.PlainBoard.{PlainBoard, plain_board, IsBoard, IsConfiguration, ArePairs, some_blank}
use Rattle.board_text.specs.PlainBoard.{version_of, places}
use Rattle.board_text.specs.declared.board.TheConstants.{MAX_LABELS, MAX_PEBBLES}

-- a board has a place for each label, and at most one more
pub labels_and_places : (board : PlainBoard) → (board.labels ≤ places board) × (places board ≤ board.labels + 1)
unfolding places
labels_and_places board =
    cond_both (some_blank board.labels board.start) (board.labels + 1) board.labels
    (λ n. (board.labels ≤ n) × (n ≤ board.labels + 1))
    (λ e. (omega arith, omega arith))
    (λ e. (omega arith, omega arith))

pub label_is_place : (board : PlainBoard) (label : ℕ) → label < board.labels → label < places board
label_is_place board label below = let most = (labels_and_places board).0 in omega (arith, most)

pub some_places : (board : PlainBoard) → IsBoard board → 1 ≤ places board
some_places board is = label_is_place board 0 is.labels.0

pub few_places : (board : PlainBoard) → IsBoard board → places board ≤ MAX_LABELS + 1
few_places board is = let most = (labels_and_places board).1 in omega (arith, most, is.labels.1)

-- the places of the start are those of the board
pub start_from_numbers : (board : PlainBoard) → AreNumbers board.pebbles (board.labels + 1) board.start
    → IsConfiguration board board.start
unfolding places
start_from_numbers board are = record {
  each_pebble = are.0;
  each_place = cond_both (some_blank board.labels board.start) (board.labels + 1) board.labels
      (λ n. All (λ place. place < n) board.start)
      (λ e. are.1)
      (λ e k d inside.
      let low : get_or board.start k d < board.labels + 1 = are.1 k d inside in
      elim (cases_eq (get_or board.start k d) board.labels) [
        | inl blank ↦ absurd (both_ways (some_blank board.labels board.start) e
            (list_any_at (λ place. place == board.labels) board.start k d inside
            (eq-eqb (get_or board.start k d) board.labels blank)))
        | inr label ↦ omega (arith, low, label)
      ]);
}

pub numbers_from_start : (board : PlainBoard) → IsConfiguration board board.start
    → AreNumbers board.pebbles (board.labels + 1) board.start
numbers_from_start board is = (
  is.each_pebble,
  λ k d inside.
      let low : get_or board.start k d < places board = is.each_place k d inside in
      let most = (labels_and_places board).1 in
      omega (arith, low, most),
)

-- parts within the limits are those of a board
pub board_from_parts : (labels pebbles : ℕ) (start : List ℕ) (pairs : List (ℕ × ℕ)) → InRange 1 MAX_LABELS labels
    → InRange 1 MAX_PEBBLES pebbles → AreNumbers pebbles (labels + 1) start → ArePairs labels pairs
    → IsBoard (plain_board labels pebbles start pairs)
board_from_parts labels pebbles start pairs in_labels in_pebbles are_places are_pairs = record {
  labels = in_labels;
  pebbles = in_pebbles;
  start = start_from_numbers (plain_board labels pebbles start pairs) are_places;
  pairs = are_pairs;
}

pub version_in_range : (labels : ℕ) (start : List ℕ) → InRange 1 2 (version_of labels start)
version_in_range labels start =
    cond_both (some_blank labels start) 2 1 (InRange 1 2) (λ e. (omega arith, omega arith))
    (λ e. (omega arith, omega arith))

-- in version 2 there is a place more than labels
pub places_by_version : (board : PlainBoard) → places board ≡ board.labels + (version_of board.labels board.start - 1)
unfolding places
places_by_version board =
    cond_both (some_blank board.labels board.start) (board.labels + 1) board.labels
    (λ n. n ≡ board.labels + (version_of board.labels board.start - 1))
    (λ e. let version : version_of board.labels board.start ≡ 2 = ap (λ (b : Bool). if b then 2 else 1) e in
    omega (arith, version))
    (λ e. let version : version_of board.labels board.start ≡ 1 = ap (λ (b : Bool). if b then 2 else 1) e in
    omega (arith, version))
