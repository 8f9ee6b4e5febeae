-- The first mark from a bound on.
use Rattle.std.proofs.Common.{rules, ◌≡◌, ℕ, ◌+◌, ◌-◌, ◌/◌, ◌%◌, ◌^◌, ◌<◌, ◌≤◌, true, false, List, length, get_or, Some}
use Rattle.std.proofs.Common.{None, sym, ap, ◌∙◌, inl, inr, arith}
use Rattle.std.specs.Int.{bit_at, trailing_zeros, w64}
use Rattle.std.proofs.lemmas.Bool.{cases_lt, eqb-true, eq-eqb}
use Rattle.std.proofs.lemmas.List.{get_or_past, get_or_read}
use Rattle.std.proofs.lemmas.Nat.{shr-shr}
use Rattle.std.proofs.lemmas.Nat.Bits.{bit_at-zero, bit_at_above, bit_at-trailing_zeros}
use Rattle.board_text.specs.Domination.{has_bit}
use Rattle.positions.specs.Counts.{IsSmallest}
use Rattle.strategies.specs.Inside.Marks.{marks_of}
use Rattle.strategies.proofs.BitMarks.{so_many, mark_at}

-- no bit from the bound on is set before a number
abbrev pub NoneBetween : List ℕ → ℕ → ℕ → Type 0
NoneBetween words bound number = (x : ℕ) → bound ≤ x → x < number → has_bit words x ≡ true → ⊥

-- the word of a number, as it was read
module _ (words : List ℕ) (number word : ℕ) (inside_words : number / 64 < length words)
    (as_read : word ≡ get_or words (number / 64) word) where
  abbrev rest : ℕ
  rest = word / 2 ^ (number % 64)

  word_is : word ≡ get_or words (number / 64) 0
  word_is = get_or_read words (number / 64) word inside_words as_read 0

  rest_is : rest ≡ get_or words (number / 64) 0 / 2 ^ (number % 64)
  rest_is = ap (λ (w : ℕ). w / 2 ^ (number % 64)) word_is

  -- the rest of a word has the bits from the number on
  bit_of_rest : (x : ℕ) → number ≤ x → x / 64 ≡ number / 64
      → bit_at rest (x - number) ≡ bit_at (get_or words (x / 64) 0) (x % 64)
  bit_of_rest x above same =
      let shift : number % 64 + (x - number) ≡ x % 64 = omega arith in
      ap (λ (w : ℕ). bit_at w (x - number)) rest_is
      ∙ ap (λ (w : ℕ). w % 2) (shr-shr (get_or words (number / 64) 0) (number % 64) (x - number))
      ∙ ap (λ (s : ℕ). bit_at (get_or words (number / 64) 0) s) shift
      ∙ ap (λ (k : ℕ). bit_at (get_or words k 0) (x % 64)) (sym same)

  -- a word without further bits is passed over
  pub pass_word : (bound : ℕ) → rest ≡ 0 → NoneBetween words bound number
      → NoneBetween words bound (number + (64 - number % 64))
  pass_word bound empty none x above below set = elim (cases_lt x number) [
    | inl before ↦ none x above before set
    | inr here ↦
        let bit : bit_at rest (x - number) ≡ 1 = bit_of_rest x here (omega arith) ∙ eqb-true _ _ set in
        let zero : bit_at rest (x - number) ≡ 0 =
        ap (λ (w : ℕ). bit_at w (x - number)) empty ∙ bit_at-zero (x - number) in
        omega (arith, bit, zero)
  ]

  -- the lowest bit of the rest is the next bit that is set
  lowest_bit : (bound lowest : ℕ) → get_or words (number / 64) 0 < 2 ^ 64 → bit_at rest lowest ≡ 1
      → ((i : ℕ) → i < lowest → bit_at rest i ≡ 0) → NoneBetween words bound number
      → (has_bit words (number + lowest) ≡ true) × NoneBetween words bound (number + lowest)
  lowest_bit bound lowest fits one zeros none = (
    eq-eqb _ _ (sym (bit_of_rest (number + lowest) (omega arith) (omega (arith, inside))) ∙ ap (bit_at rest) here
        ∙ one),
    λ x above below set. elim (cases_lt x number) [
      | inl before ↦ none x above before set
      | inr from ↦
          let bit : bit_at rest (x - number) ≡ 1 = bit_of_rest x from (omega (arith, inside)) ∙ eqb-true _ _ set in
          omega (arith, bit, zeros (x - number) (omega arith))
    ],
  )
    where
      here : number + lowest - number ≡ lowest
      here = omega arith

      word_bit : bit_at (get_or words (number / 64) 0) (number % 64 + lowest) ≡ 1
      word_bit = sym (ap (λ (w : ℕ). w % 2) (shr-shr (get_or words (number / 64) 0) (number % 64) lowest))
          ∙ ap (λ (w : ℕ). bit_at w lowest) (sym rest_is) ∙ one

      inside : number % 64 + lowest < 64
      inside = elim (cases_lt (number % 64 + lowest) 64) [
        | inl low ↦ low
        | inr high ↦ omega (
          arith,
          word_bit,
          bit_at_above (get_or words (number / 64) 0) 64 (number % 64 + lowest) fits high,
        )
      ]

  pub first_in_word : (bound : ℕ) → 0 < rest → word < 2 ^ 64 → NoneBetween words bound number
      → (has_bit words (number + trailing_zeros w64 rest) ≡ true)
      × NoneBetween words bound (number + trailing_zeros w64 rest)
  first_in_word bound some fits none =
      let small : rest < 2 ^ 64 = search rules in
      let at = bit_at-trailing_zeros w64 rest some small in
      lowest_bit bound (trailing_zeros w64 rest) (rw word_is at fits) at.1 at.2 none

module _ (size : ℕ) (words : List ℕ) (bound : ℕ) where
  abbrev IsMarkFrom : ℕ → Type 0
  IsMarkFrom number = (bound ≤ number) × (get_or (marks_of size words) number false ≡ true)

  below : (number : ℕ) → IsMarkFrom number → number < size
  below number is = elim (cases_lt number size) [
    | inl low ↦ low
    | inr high ↦ absurd (let past : get_or (marks_of size words) number false ≡ false =
        get_or_past (marks_of size words) number false (omega (arith, high, so_many size words)) in cc)
  ]

  pub first_mark : (number : ℕ) → bound ≤ number → number < size → has_bit words number ≡ true
      → NoneBetween words bound number → IsSmallest IsMarkFrom (Some number)
  first_mark number above low set none = (
    (above, mark_at size words number low ∙ set),
    λ other is. elim (cases_lt other number) [
      | inl before ↦ absurd (none other is.0 before (sym (mark_at size words other (below other is)) ∙ is.1))
      | inr behind ↦ behind
    ],
  )

  pub no_mark : (number : ℕ) → size ≤ number → NoneBetween words bound number → IsSmallest IsMarkFrom None
  no_mark number past none other is =
      let low = below other is in none other is.0 (omega (arith, low, past)) (sym (mark_at size words other low) ∙ is.1)
