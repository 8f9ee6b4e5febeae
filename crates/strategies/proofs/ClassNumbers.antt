-- Places by their numbers in the order of documents.
use Rattle.std.proofs.Common.{◌≡◌, ℕ, ◌+◌, ◌^◌, ◌<◌, List, [], ◌∷◌, length, map, sym, ap, ◌∙◌, subst, inl, inr, refl}
use Rattle.std.proofs.lemmas.Bool.{cases_eq}
use Rattle.std.proofs.lemmas.List.{length-map}
use Rattle.board_text.specs.PlainBoard.{PlainBoard, IsConfiguration}
use Rattle.positions.specs.Ranks.{digits_of}
use Rattle.positions.proofs.Digits.{digits_of-number_of, number_below}
use Rattle.proof_text.specs.Arranged.{order_of, document_number}
use Rattle.proof_text.proofs.Cited.{order-none, order-label, orders-below, places-few}
use Rattle.strategies.specs.Inside.Numbering.{place_of, class_numbered, IsClassNumber}

place_of-order : (labels place : ℕ) → place_of labels (order_of labels place) ≡ place
place_of-order labels place = elim (cases_eq place labels) [
  | inl same ↦ ap (λ p. place_of labels (order_of labels p)) same ∙ ap (place_of labels) (order-none labels) ∙ sym same
  | inr differs ↦ ap (place_of labels) (order-label labels place differs)
]

places_of-orders : (labels : ℕ) (at : List ℕ) → map (place_of labels) (map (order_of labels) at) ≡ at
places_of-orders labels [] = refl
places_of-orders labels (place ∷ at) =
    λ i. place_of-order labels place i ∷ places_of-orders labels at i

-- a configuration has the places of its number
pub class_numbered-order : (board : PlainBoard) (at : List ℕ) → IsConfiguration board at
    → class_numbered board (document_number board.labels at) ≡ at
class_numbered-order board at is =
    let labels : ℕ = board.labels in
    let orders : List ℕ = map (order_of labels) at in
    let long : length orders ≡ board.pebbles = length-map at (order_of labels) ∙ is.each_pebble in
    ap (λ n. map (place_of labels) (digits_of (labels + 1) n (document_number labels at))) (sym long)
    ∙ ap (map (place_of labels))
    (digits_of-number_of (labels + 1) orders (orders-below labels at (places-few board at is)))
    ∙ places_of-orders labels at

-- each number of a configuration is below this one
abbrev pub last_number : PlainBoard → ℕ
last_number board = (board.labels + 1) ^ board.pebbles

pub numbers-end : (board : PlainBoard) (at : List ℕ) → IsConfiguration board at
    → document_number board.labels at < last_number board
numbers-end board at is =
    let orders : List ℕ = map (order_of board.labels) at in
    let long : length orders ≡ board.pebbles = length-map at (order_of board.labels) ∙ is.each_pebble in
    subst (λ n. document_number board.labels at < (board.labels + 1) ^ n) long
    (number_below (board.labels + 1) orders (orders-below board.labels at (places-few board at is)))

pub number-ends : (board : PlainBoard) (number : ℕ) → IsClassNumber board number → number < last_number board
number-ends board number is =
    subst (λ n. n < last_number board) is.number_is (numbers-end board (class_numbered board number) is.is)

-- the number of a configuration is that of its places
pub number-of : (board : PlainBoard) (at : List ℕ) → IsConfiguration board at
    → IsClassNumber board (document_number board.labels at)
number-of board at is =
    let same : class_numbered board (document_number board.labels at) ≡ at = class_numbered-order board at is in
    record {
      is = subst (IsConfiguration board) (sym same) is;
      number_is = ap (document_number board.labels) same;
    }
