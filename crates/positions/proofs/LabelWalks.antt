-- A walk over labels, word by word.
use Rattle.std.proofs.Common.{◌≡◌, ℕ, ◌+◌, ◌-◌, ◌*◌, ◌/◌, ◌%◌, ◌^◌, ◌<◌, ◌≤◌, ◌⊎◌, inl, inr, nat_eq, bit_and, bit_or}
use Rattle.std.proofs.Common.{true, List, length, get_or, set, sym, ap, subst, ◌∙◌, arith}
use Rattle.std.specs.Int.{bit_at, w64, trailing_zeros}
use Rattle.std.proofs.Math.ListN.{length-set}
use Rattle.std.proofs.lemmas.Bool.{cases_lt, cases_eq, eqb-true}
use Rattle.std.proofs.lemmas.List.{get_or-set_same, get_or-set_other, set-set, set-get_or}
use Rattle.std.proofs.lemmas.Nat.{le_or_l, le_or_r}
use Rattle.std.proofs.lemmas.Nat.Bits.{bit_at-zero}
use Rattle.board_text.specs.declared.board.TheConstants.{MAX_LABELS}
use Rattle.board_text.specs.Domination.{has_bit}
use Rattle.positions.specs.LabelWalk.{TakesSmallest}
use Rattle.positions.specs.Inside.LabelWalk.{IsAtWord}
use Rattle.positions.proofs.LowestBit.{none_empty, step_is}

pub begins : (words : List ℕ) → length words ≡ 4
    → IsAtWord words 0 (get_or words 0 0) (bit_or (bit_or (get_or words 1 0) (get_or words 2 0)) (get_or words 3 0))
begins words size = record {
  sized = size;
  inside = omega arith;
  none = λ label low set. absurd (omega arith);
  empty = λ nothing later behind few.
      let ab : ℕ = bit_or (get_or words 1 0) (get_or words 2 0) in
      let first : get_or words 1 0 ≤ ab = le_or_l (get_or words 1 0) (get_or words 2 0) in
      let second : get_or words 2 0 ≤ ab = le_or_r (get_or words 1 0) (get_or words 2 0) in
      let both : ab ≤ bit_or ab (get_or words 3 0) = le_or_l ab (get_or words 3 0) in
      let third : get_or words 3 0 ≤ bit_or ab (get_or words 3 0) = le_or_r ab (get_or words 3 0) in
      elim (cases_eq later 1) [
        | inl one ↦ ap (λ (k : ℕ). get_or words k 0) one ∙ omega (arith, first, both, nothing)
        | inr not_one ↦ elim (cases_eq later 2) [
          | inl two ↦ ap (λ (k : ℕ). get_or words k 0) two ∙ omega (arith, second, both, nothing)
          | inr not_two ↦
              let three : later ≡ 3 = omega arith in
              ap (λ (k : ℕ). get_or words k 0) three ∙ omega (arith, third, nothing)
        ]
      ];
}

-- an empty word is passed, and the rest of the labels stays the same
pub moves_on : (words : List ℕ) (place behind : ℕ) → place + 1 < 4 → IsAtWord words place 0 behind
    → IsAtWord (set words place 0) (place + 1) (get_or (set words place 0) (place + 1) 0) behind
moves_on words place behind more come =
    let size = come.sized in
    let view : set (set words place 0) (place + 1) (get_or (set words place 0) (place + 1) 0) ≡ set words place 0 =
    set-get_or (set words place 0) (place + 1) 0 in
    let zero : get_or (set words place 0) place 0 ≡ 0 = get_or-set_same words place 0 0 (omega arith) in
    record {
      sized = length-set words place 0 ∙ size;
      inside = more;
      none = λ label low bit.
          none_empty (set words place 0) place zero (λ x _ before there. come.none x before there) label
          (omega arith) low
          (subst (λ (ws : List ℕ). has_bit ws label ≡ true) view bit);
      empty = λ nothing later after few. get_or-set_other words place later 0 0 (λ same. omega arith)
          ∙ come.empty nothing later (omega arith) few;
    }

-- after the last word that may have a label, none is left
pub none_behind : (words : List ℕ) (place behind : ℕ) → IsAtWord words place 0 behind → (behind ≡ 0) ⊎ (place + 1 ≡ 4)
    → (label : ℕ) → label < MAX_LABELS → has_bit (set words place 0) label ≡ true → ⊥
none_behind words place behind come last label small bit = elim (cases_lt label (64 * place)) [
  | inl before ↦ come.none label before bit
  | inr from ↦
      let at : ℕ = label / 64 in
      let size = come.sized in
      let inside = come.inside in
      let empty : get_or (set words place 0) at 0 ≡ 0 = elim (cases_eq at place) [
        | inl here ↦ ap (λ (k : ℕ). get_or (set words place 0) k 0) here ∙ get_or-set_same words place 0 0 (omega arith)
        | inr other ↦ get_or-set_other words place at 0 0 other ∙ elim last [
          | inl nothing ↦ come.empty nothing at (omega arith) (omega arith)
          | inr end ↦ absurd (omega arith)
        ]
      ] in
      let one : bit_at 0 (label % 64) ≡ 1 =
      eqb-true (bit_at 0 (label % 64)) 1 (ap (λ (w : ℕ). nat_eq (bit_at w (label % 64)) 1) (sym empty) ∙ bit) in
      omega (arith, one, bit_at-zero (label % 64))
]

-- the lowest bit of the word is taken out
pub takes_lowest : (words : List ℕ) (place word behind from : ℕ) → 0 < word → word < 2 ^ 64
    → IsAtWord words place word behind
    → TakesSmallest (record { left = set words place word; from = from })
    (record { left = set words place (bit_and word (word - 1)); from = 64 * place + trailing_zeros w64 word + 1 })
    (64 * place + trailing_zeros w64 word)
takes_lowest words place word behind from some fits come =
    let size = come.sized in
    let inside = come.inside in
    let here : get_or (set words place word) place 0 ≡ word = get_or-set_same words place word 0 (omega arith) in
    let label : ℕ = 64 * place + trailing_zeros w64 word in
    let step = step_is (set words place word) place label from (length-set words place word ∙ size) inside
    (omega (arith, here, some))
    (omega (arith, here, fits)) (λ x _ before there. come.none x before there)
    (ap (λ (w : ℕ). 64 * place + trailing_zeros w64 w) (sym here)) in
    let new : set (set words place word) place
    (bit_and (get_or (set words place word) place 0) (get_or (set words place word) place 0 - 1))
    ≡ set words place (bit_and word (word - 1)) =
    ap (λ (w : ℕ). set (set words place word) place (bit_and w (w - 1))) here
    ∙ set-set words place word (bit_and word (word - 1)) in
    subst (λ (ws : List ℕ). TakesSmallest (record { left = set words place word; from = from })
    (record { left = ws; from = label + 1 }) label) new step

pub still_come : (words : List ℕ) (place word behind from : ℕ) → 0 < word → word < 2 ^ 64
    → IsAtWord words place word behind
    → IsAtWord words place (bit_and word (word - 1)) behind
still_come words place word behind from some fits come = record {
  sized = come.sized;
  inside = come.inside;
  none = λ label low bit.
      let inside = come.inside in
      come.none label low (((takes_lowest words place word behind from some fits come).left label
      (omega arith)).0 bit).0;
  empty = come.empty;
}
