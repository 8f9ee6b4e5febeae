-- Numbers without their lowest bit.
use Rattle.std.proofs.Common.{◌≡◌, ℕ, zero, suc, ◌+◌, ◌-◌, ◌*◌, ◌/◌, ◌%◌, ◌^◌, ◌<◌, ◌≤◌, ◌↔◌, nat_eq, bit_and, true}
use Rattle.std.proofs.Common.{List, length, get_or, set, refl, sym, ap, ◌∙◌, subst, inl, inr, arith}
use Rattle.std.specs.Int.{bit_at, w64, trailing_zeros}
use Rattle.std.proofs.lemmas.Bool.{cases_eq, cases_lt, cases_order, eqb-true, eq-eqb}
use Rattle.std.proofs.lemmas.List.{get_or-set_same, get_or-set_other}
use Rattle.std.proofs.lemmas.Nat.Bits.{bit_at-suc, bit_at_lowest, bit_at-zero, bit_at-trailing_zeros}
use Rattle.board_text.specs.Domination.{has_bit}
use Rattle.positions.specs.LabelWalk.{TakesSmallest}
use Rattle.positions.proofs.LabelBits.{NoneBefore, bit_of_both, bit_of_word}

-- the number less 1 has no bit at the place of the lowest
pred_same : (n k : ℕ) → 0 < n → bit_at n k ≡ 1 → ((i : ℕ) → i < k → bit_at n i ≡ 0) → bit_at (n - 1) k ≡ 0
pred_same n zero some set none =
    let odd : n % 2 ≡ 1 = sym (bit_at_lowest n) ∙ set in
    bit_at_lowest (n - 1) ∙ omega arith
pred_same n (suc k) some set none =
    let even : n % 2 ≡ 0 = sym (bit_at_lowest n) ∙ none 0 (omega arith) in
    let half : (n - 1) / 2 ≡ n / 2 - 1 = omega arith in
    bit_at-suc (n - 1) k ∙ ap (λ (m : ℕ). bit_at m k) half
    ∙ pred_same (n / 2) k (omega arith) (sym (bit_at-suc n k) ∙ set)
    (λ i low. sym (bit_at-suc n i) ∙ none (suc i) (omega arith))

-- and has the same bits above it
pred_above : (n k j : ℕ) → 0 < n → bit_at n k ≡ 1 → ((i : ℕ) → i < k → bit_at n i ≡ 0) → k < j
    → bit_at (n - 1) j ≡ bit_at n j
pred_above n k zero some set none above = absurd (omega arith)
pred_above n zero (suc j) some set none above =
    let odd : n % 2 ≡ 1 = sym (bit_at_lowest n) ∙ set in
    let half : (n - 1) / 2 ≡ n / 2 = omega arith in
    bit_at-suc (n - 1) j ∙ ap (λ (m : ℕ). bit_at m j) half ∙ sym (bit_at-suc n j)
pred_above n (suc k) (suc j) some set none above =
    let even : n % 2 ≡ 0 = sym (bit_at_lowest n) ∙ none 0 (omega arith) in
    let half : (n - 1) / 2 ≡ n / 2 - 1 = omega arith in
    bit_at-suc (n - 1) j ∙ ap (λ (m : ℕ). bit_at m j) half
    ∙ pred_above (n / 2) k j (omega arith) (sym (bit_at-suc n k) ∙ set)
    (λ i low. sym (bit_at-suc n i) ∙ none (suc i) (omega arith)) (omega arith)
    ∙ sym (bit_at-suc n j)

-- the bits that a number shares with the number less 1 are those above its lowest
both_above : (n k j : ℕ) → 0 < n → bit_at n k ≡ 1 → ((i : ℕ) → i < k → bit_at n i ≡ 0)
    → (nat_eq (bit_at (bit_and n (n - 1)) j) 1 ≡ true) ↔ ((nat_eq (bit_at n j) 1 ≡ true) × (k < j))
both_above n k j some set none = (
  λ both.
      let each = (bit_of_both n (n - 1) j).0 both in
      let one : bit_at n j ≡ 1 = eqb-true (bit_at n j) 1 each.0 in
      let other : bit_at (n - 1) j ≡ 1 = eqb-true (bit_at (n - 1) j) 1 each.1 in (
        each.0,
        elim (cases_order j k) [
          | inl same ↦
              let zero : bit_at (n - 1) k ≡ 0 = pred_same n k some set none in
              let also : bit_at (n - 1) k ≡ 1 = subst (λ (i : ℕ). bit_at (n - 1) i ≡ 1) same other in
              absurd (omega arith)
          | inr differ ↦ elim differ [
            | inl below ↦ let zero : bit_at n j ≡ 0 = none j below in absurd (omega arith)
            | inr above ↦ above
          ]
        ],
      ),
  λ is. (bit_of_both n (n - 1) j).1 (is.0, ap (λ (b : ℕ). nat_eq b 1) (pred_above n k j some set none is.1) ∙ is.0),
)

pub none_empty : (words : List ℕ) (place : ℕ) → get_or words place 0 ≡ 0 → NoneBefore words 0 place
    → NoneBefore words 0 (place + 1)
none_empty words place empty none x above low set = elim (cases_lt x (64 * place)) [
  | inl before ↦ none x above before set
  | inr here ↦
      let same : x / 64 ≡ place = omega arith in
      let zero : has_bit words x ≡ nat_eq (bit_at 0 (x % 64)) 1 =
      ap (λ (p : ℕ). nat_eq (bit_at (get_or words p 0) (x % 64)) 1) same
      ∙ ap (λ (w : ℕ). nat_eq (bit_at w (x % 64)) 1) empty in
      let one : bit_at 0 (x % 64) ≡ 1 = eqb-true (bit_at 0 (x % 64)) 1 (sym zero ∙ set) in
      omega (arith, one, bit_at-zero (x % 64))
]

-- the first bit of the first word that has one is taken out
pub step_is : (words : List ℕ) (place label from : ℕ) → length words ≡ 4 → place < 4 → 0 < get_or words place 0
    → get_or words place 0 < 2 ^ 64 → NoneBefore words 0 place
    → label ≡ 64 * place + trailing_zeros w64 (get_or words place 0)
    → TakesSmallest (record { left = words; from = from })
    (record {
      left = set words place (bit_and (get_or words place 0) (get_or words place 0 - 1));
      from = label + 1;
    }) label
step_is words place label from size inside some fits none label_is =
    let word : ℕ = get_or words place 0 in
    let lowest : ℕ = trailing_zeros w64 word in
    let at = bit_at-trailing_zeros w64 word some fits in
    let low : lowest < 64 = at.0 in
    let within : place < length words = omega arith in
    let bit : has_bit words label ≡ true =
    subst (λ (x : ℕ). has_bit words x ≡ true) (sym label_is)
    (bit_of_word words place lowest low ∙ eq-eqb (bit_at word lowest) 1 at.1) in
    let first : (x : ℕ) → has_bit words x ≡ true → label ≤ x =
    λ x set_there. elim (cases_lt x label) [
      | inr after ↦ after
      | inl before ↦ elim (cases_lt x (64 * place)) [
        | inl earlier ↦ absurd (none x (omega arith) earlier set_there)
        | inr here ↦
            let same : x / 64 ≡ place = omega arith in
            let one : bit_at word (x % 64) ≡ 1 =
            eqb-true (bit_at word (x % 64)) 1
            (ap (λ (p : ℕ). nat_eq (bit_at (get_or words p 0) (x % 64)) 1) (sym same) ∙ set_there) in
            let zero : bit_at word (x % 64) ≡ 0 = at.2 (x % 64) (omega arith) in
            absurd (omega arith)
      ]
    ] in
    record {
      smallest = ((omega arith, bit), λ x has. first x has.1);
      left = λ x small. elim (cases_eq (x / 64) place) [
        | inl same ↦
            let changed : has_bit (set words place (bit_and word (word - 1))) x
            ≡ nat_eq (bit_at (bit_and word (word - 1)) (x % 64)) 1 =
            ap (λ (p : ℕ). nat_eq (bit_at (get_or (set words place (bit_and word (word - 1))) p 0) (x % 64)) 1) same
            ∙ ap (λ (w : ℕ). nat_eq (bit_at w (x % 64)) 1)
            (get_or-set_same words place (bit_and word (word - 1)) 0 within) in
            let kept : has_bit words x ≡ nat_eq (bit_at word (x % 64)) 1 =
            ap (λ (p : ℕ). nat_eq (bit_at (get_or words p 0) (x % 64)) 1) same in
            let is = both_above word lowest (x % 64) some at.1 at.2 in (
              λ has. let both = is.0 (sym changed ∙ has) in let above : lowest < x % 64 = both.1 in
                  (kept ∙ both.0, omega arith),
              λ has. let later : label < x = has.1 in changed ∙ is.1 (sym kept ∙ has.0, omega arith),
            )
        | inr differ ↦
            let same : has_bit (set words place (bit_and word (word - 1))) x ≡ has_bit words x =
            ap (λ (w : ℕ). nat_eq (bit_at w (x % 64)) 1)
            (get_or-set_other words place (x / 64) (bit_and word (word - 1)) 0 differ) in (
              λ has. let there = sym same ∙ has in let after : label ≤ x = first x there in (there, omega arith),
              λ has. same ∙ has.0,
            )
      ];
      from = refl;
    }
