-- Bits as marks.
use Rattle.std.proofs.Common.{◌≡◌, ◌≢◌, ℕ, ◌*◌, ◌/◌, ◌%◌, ◌^◌, ◌<◌, bit_and, nat_eq, Bool, true, false, List, length}
use Rattle.std.proofs.Common.{get_or, set, replicate, sym, ap, ◌∙◌, inl, inr, arith}
use Rattle.std.specs.Int.{bit_at, bit_not, w64}
use Rattle.std.proofs.lemmas.Bool.{cases_eq, cases_lt}
use Rattle.std.proofs.lemmas.List.{ext_get_or, length-set, length-replicate, get_or-replicate, get_or-set_same}
use Rattle.std.proofs.lemmas.List.{get_or-set_other, get_or_past}
use Rattle.std.proofs.lemmas.List.FromFn.{length-map-range_with_len, get_or-map-range_with_len}
use Rattle.std.proofs.lemmas.Nat.Bits.{bit_at-zero, bit_at_clear_other, bit_at_clear_same}
use Rattle.board_text.specs.Domination.{has_bit}
use Rattle.positions.proofs.Cited.{with_bit, has_bit-set_same, has_bit-set_other}
use Rattle.strategies.specs.Inside.Marks.{marks_of}

pub so_many : (size : ℕ) (words : List ℕ) → length (marks_of size words) ≡ size
so_many size words = length-map-range_with_len (has_bit words) 0 size

pub mark_at : (size : ℕ) (words : List ℕ) (number : ℕ) → number < size
    → get_or (marks_of size words) number false ≡ has_bit words number
mark_at size words number inside =
    get_or-map-range_with_len (has_bit words) 0 size number number false inside (omega arith)

no_word : (count place : ℕ) → ◌≡◌ {A = ℕ} (get_or (replicate count 0) place 0) 0
no_word count place = elim (cases_lt place count) [
  | inl inside ↦ get_or-replicate {A = ℕ} count place 0 0 inside
  | inr beyond ↦ get_or_past (replicate count 0) place 0 (omega (arith, beyond, length-replicate {A = ℕ} count 0))
]

-- no bit is set
pub none_marked : (size count : ℕ) → marks_of size (replicate count 0) ≡ replicate size false
none_marked size count = ext_get_or false (marks_of size (replicate count 0)) (replicate size false)
    (so_many size (replicate count 0) ∙ sym (length-replicate {A = Bool} size false))
    (λ number inside.
    let low : number < size = omega (arith, inside, so_many size (replicate count 0)) in
    mark_at size (replicate count 0) number low
    ∙ ap (λ (w : ℕ). nat_eq (bit_at w (number % 64)) 1) (no_word count (number / 64))
    ∙ ap (λ (b : ℕ). nat_eq b 1) (bit_at-zero (number % 64))
    ∙ sym (get_or-replicate {A = Bool} size number false false low))

-- one more bit is set
pub one_marked : (size : ℕ) (words : List ℕ) (number : ℕ) → number < size → number / 64 < length words
    → marks_of size (with_bit words number) ≡ set (marks_of size words) number true
one_marked size words number low inside =
    ext_get_or false (marks_of size (with_bit words number)) (set (marks_of size words) number true)
    (so_many size (with_bit words number) ∙ sym (length-set (marks_of size words) number true ∙ so_many size words))
    (λ other within.
    let here : other < size = omega (arith, within, so_many size (with_bit words number)) in
    mark_at size (with_bit words number) other here ∙ elim (cases_eq other number) [
      | inl same ↦
          ap (has_bit (with_bit words number)) same ∙ has_bit-set_same words number inside
          ∙ sym (ap (λ (n : ℕ). get_or (set (marks_of size words) number true) n false) same
          ∙ get_or-set_same (marks_of size words) number true false (omega (arith, low, so_many size words)))
      | inr differ ↦
          has_bit-set_other words number other inside differ ∙ sym (mark_at size words other here)
          ∙ sym (get_or-set_other (marks_of size words) number other true false differ)
    ])

-- ---- a bit that is cleared

-- the words with the bit of a number cleared
abbrev pub without_bit : List ℕ → ℕ → List ℕ
without_bit words number = set words (number / 64)
    (bit_and (get_or words (number / 64) 0) (bit_not w64 (1 * 2 ^ (number % 64) % 2 ^ 64)))

cleared_same : (words : List ℕ) (number : ℕ) → number / 64 < length words
    → has_bit (without_bit words number) number ≡ false
cleared_same words number inside =
    let bit : number % 64 < 64 = omega arith in
    let word : ℕ = get_or words (number / 64) 0 in
    let less : ℕ = bit_and word (bit_not w64 (1 * 2 ^ (number % 64) % 2 ^ 64)) in
    ap (λ (w : ℕ). nat_eq (bit_at w (number % 64)) 1) (get_or-set_same words (number / 64) less 0 inside)
    ∙ ap (λ (b : ℕ). nat_eq b 1) (bit_at_clear_same w64 word (number % 64) bit)

cleared_other : (words : List ℕ) (number other : ℕ) → number / 64 < length words → other ≢ number
    → has_bit (without_bit words number) other ≡ has_bit words other
cleared_other words number other inside differ =
    let bit : number % 64 < 64 = omega arith in
    let low : other % 64 < 64 = omega arith in
    let word : ℕ = get_or words (number / 64) 0 in
    let less : ℕ = bit_and word (bit_not w64 (1 * 2 ^ (number % 64) % 2 ^ 64)) in
    elim (cases_eq (other / 64) (number / 64)) [
      | inr elsewhere ↦ ap (λ (w : ℕ). nat_eq (bit_at w (other % 64)) 1)
          (get_or-set_other words (number / 64) (other / 64) less 0 elsewhere)
      | inl same ↦
          let apart : other % 64 ≢ number % 64 = λ e. differ (omega arith) in
          ap (λ (k : ℕ). nat_eq (bit_at (get_or (set words (number / 64) less) k 0) (other % 64)) 1) same
          ∙ ap (λ (w : ℕ). nat_eq (bit_at w (other % 64)) 1) (get_or-set_same words (number / 64) less 0 inside)
          ∙ ap (λ (n : ℕ). nat_eq n 1) (bit_at_clear_other w64 word (number % 64) bit (other % 64) low apart)
          ∙ ap (λ (k : ℕ). nat_eq (bit_at (get_or words k 0) (other % 64)) 1) (sym same)
    ]

-- one bit less is set
pub one_cleared : (size : ℕ) (words : List ℕ) (number : ℕ) → number < size → number / 64 < length words
    → marks_of size (without_bit words number) ≡ set (marks_of size words) number false
one_cleared size words number low inside =
    ext_get_or false (marks_of size (without_bit words number)) (set (marks_of size words) number false)
    (so_many size (without_bit words number) ∙ sym (length-set (marks_of size words) number false ∙ so_many size words))
    (λ other within.
    let here : other < size = omega (arith, within, so_many size (without_bit words number)) in
    mark_at size (without_bit words number) other here ∙ elim (cases_eq other number) [
      | inl same ↦
          ap (has_bit (without_bit words number)) same ∙ cleared_same words number inside
          ∙ sym (ap (λ (n : ℕ). get_or (set (marks_of size words) number false) n false) same
          ∙ get_or-set_same (marks_of size words) number false false (omega (arith, low, so_many size words)))
      | inr differ ↦
          cleared_other words number other inside differ ∙ sym (mark_at size words other here)
          ∙ sym (get_or-set_other (marks_of size words) number other false false differ)
    ])
