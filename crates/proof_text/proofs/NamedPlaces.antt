-- Arranged places, told by their numbers.
use Rattle.std.proofs.Common.{◌≡◌, ℕ, suc, ◌+◌, ◌-◌, cond, List, [], ◌∷◌, length, map, refl, sym, ap, ◌∙◌, arith}
use Rattle.std.proofs.Common.{inl, inr, eq-eqb, ne_eqb}
use Rattle.std.proofs.lemmas.Bool.{cases_eq}
use Rattle.std.proofs.lemmas.List.{length-map}
use Rattle.board_text.specs.PlainBoard.{PlainBoard, IsConfiguration}
use Rattle.positions.specs.Ranks.{digits_of}
use Rattle.positions.proofs.Digits.{digits_of-number_of}
use Rattle.proof_text.specs.Arranged.{order_of, document_number, place_in_order, arranged_at}
use Rattle.proof_text.proofs.NumberedPlaces.{places-few}
use Rattle.proof_text.proofs.OrderNumbers.{order-none, order-label, orders-below}

-- ---- places

-- a place is the one of its order
place-back : (labels place : ℕ) → place_in_order labels (order_of labels place) ≡ place
place-back labels place = elim (cases_eq place labels) [
  | inl same ↦
      ap (place_in_order labels) (ap (order_of labels) same ∙ order-none labels)
      ∙ ap (λ b. cond b labels (0 - 1)) (eq-eqb 0 0 refl) ∙ sym same
  | inr differs ↦
      ap (place_in_order labels) (order-label labels place differs)
      ∙ ap (λ b. cond b labels (suc place - 1)) (ne_eqb (suc place) 0 (λ none. omega (arith, none)))
      ∙ omega arith
]

places-back : (labels : ℕ) (places : List ℕ) → map (place_in_order labels) (map (order_of labels) places) ≡ places
places-back labels [] = refl
places-back labels (place ∷ places) = λ i. place-back labels place i ∷ places-back labels places i

pub class_at_order : (board : PlainBoard) (at : List ℕ) → IsConfiguration board at
    → arranged_at board (document_number board.labels at) ≡ at
class_at_order board at is =
    let digits : List ℕ = map (order_of board.labels) at in
    let count : board.pebbles ≡ length digits = sym (length-map at (order_of board.labels) ∙ is.each_pebble) in
    ap (λ n. map (place_in_order board.labels) (digits_of (board.labels + 1) n (document_number board.labels at))) count
    ∙ ap (map (place_in_order board.labels))
    (digits_of-number_of (board.labels + 1) digits (orders-below board.labels at (places-few board at is)))
    ∙ places-back board.labels at

-- a number of a configuration is that of its places
pub class_at_number : (board : PlainBoard) (number : ℕ) (at : List ℕ) → IsConfiguration board at
    → document_number board.labels at ≡ number → arranged_at board number ≡ at
class_at_number board number at is same = ap (arranged_at board) (sym same) ∙ class_at_order board at is
