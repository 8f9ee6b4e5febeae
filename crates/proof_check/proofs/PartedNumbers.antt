-- Numbers cut into parts by their values, and searched in one.
use Rattle.std.proofs.Common.{◌≡◌, ℕ, ◌+◌, ◌*◌, ◌/◌, ◌^◌, ◌-◌, ◌<◌, ◌≤◌, List, [], ◌∷◌, ◌++◌, length, get_or, take}
use Rattle.std.proofs.Common.{drop, zero, suc, sym, ap, ◌∙◌, subst, arith, inl, inr}
use Rattle.std.proofs.Math.Nat.{div-mul-le_self, div-le_of_le-mul, le_trans, pow-succ'}
use Rattle.std.proofs.lemmas.Nat.{le-div, pow_pos}
use Rattle.std.proofs.lemmas.Bool.{cases_lt}
use Rattle.std.proofs.lemmas.List.{get_or-take, get_or-drop, length-drop, length-take-le, get_or_append_left}
use Rattle.std.proofs.lemmas.List.{length_push}
use Rattle.std.proofs.Math.Seq.{get_or-append_seam}
use Rattle.proof_check.specs.Inside.PartedNumbers.{Ascends, AreBelow, AreStarts, AreParted}
use Rattle.proof_check.specs.Inside.PartedNumbers.{AreUpTo, IsPlace, IsPartStart, LacksNumber}

-- no number is of an earlier part than a smaller one
parts_ascend : (shift a b : ℕ) → a ≤ b → a / 2 ^ shift ≤ b / 2 ^ shift
parts_ascend shift a b le =
    le-div (a / 2 ^ shift) b (2 ^ shift) (pow_pos shift) (le_trans (div-mul-le_self a (2 ^ shift)) le)

-- ---- the starts of all parts

pub starts_more : (numbers : List ℕ) (shift start : ℕ) (starts : List ℕ) → AreStarts numbers shift starts
    → IsPartStart numbers shift (length starts) start → AreStarts numbers shift (starts ++ start ∷ [])
starts_more numbers shift start starts are is part low = elim (cases_lt part (length starts)) [
  | inl less ↦
      subst (IsPartStart numbers shift part) (sym (get_or_append_left starts (start ∷ []) 0 part less)) (are part less)
  | inr most ↦
      let last : part ≡ length starts = omega (arith, low, most, length_push starts start) in
      let here : get_or (starts ++ start ∷ []) part 0 ≡ start =
      ap (λ (n : ℕ). get_or (starts ++ start ∷ []) n 0) last ∙ get_or-append_seam starts start [] 0 in
      subst (IsPartStart numbers shift part) (sym here)
      (subst (λ (n : ℕ). IsPartStart numbers shift n start) (sym last) is)
]

-- ---- the numbers of a part

module _ (numbers : List ℕ) (shift part first end : ℕ) (is_first : IsPartStart numbers shift part first)
    (is_end : IsPartStart numbers shift (part + 1) end) where
  pub in_order : first ≤ end
  in_order = elim (cases_lt end first) [
    | inl less ↦
        let within : first ≤ length numbers = is_first.within in
        let before = is_first.before end less in
        let after = is_end.after end (omega arith) (omega (arith, less, within)) in
        absurd (omega (arith, before, after))
    | inr most ↦ most
  ]

  abbrev pub between : List ℕ
  between = take (end - first) (drop first numbers)

  between-length : length between ≡ end - first
  between-length =
      let within : end ≤ length numbers = is_end.within in
      length-take-le (end - first) (drop first numbers) (omega (arith, within, in_order, length-drop first numbers))

  between-at : (index : ℕ) → index < end - first → get_or between index 0 ≡ get_or numbers (first + index) 0
  between-at index low =
      get_or-take (end - first) (drop first numbers) index 0 low ∙ get_or-drop first numbers index 0

  pub between-ascends : Ascends numbers → Ascends between
  between-ascends ascends one two le low =
      let within : end ≤ length numbers = is_end.within in
      let short : two < end - first = omega (arith, low, between-length) in
      let up = ascends (first + one) (first + two) (omega (arith, le)) (omega (arith, short, within)) in
      omega (arith, up, between-at one (omega (arith, le, short)), between-at two short)

  module _ (number : ℕ) (of_part : number / 2 ^ shift ≡ part) where
    pub place_between : (index : ℕ) → index < length between → get_or between index 0 ≡ number
        → IsPlace numbers number (first + index)
    place_between index low is =
        let within : end ≤ length numbers = is_end.within in
        let short : index < end - first = omega (arith, low, between-length) in
        (omega (arith, short, within), sym (between-at index short) ∙ is)

    -- the number is only where its part is
    apart : (place : ℕ) → place < length numbers → get_or numbers place 0 ≡ number → (first ≤ place) × (place < end)
    apart place low is =
        let own : get_or numbers place 0 / 2 ^ shift ≡ part = ap (λ (n : ℕ). n / 2 ^ shift) is ∙ of_part in
        (from own, below own)
      where
        from : get_or numbers place 0 / 2 ^ shift ≡ part → first ≤ place
        from own = elim (cases_lt place first) [
          | inl less ↦ let before = is_first.before place less in absurd (omega (arith, before, own))
          | inr most ↦ most
        ]

        below : get_or numbers place 0 / 2 ^ shift ≡ part → place < end
        below own = elim (cases_lt place end) [
          | inl less ↦ less
          | inr most ↦ let after = is_end.after place most low in absurd (omega (arith, after, own))
        ]

    pub none_between : (index : ℕ) → ((k : ℕ) → k < index → get_or between k 0 < number)
        → ((k : ℕ) → index ≤ k → k < length between → number < get_or between k 0) → LacksNumber numbers number
    none_between index before behind place low is =
        let here = apart place low is in
        let from : first ≤ place = here.0 in
        let below : place < end = here.1 in
        let k = place - first in
        let short : k < end - first = omega (arith, from, below) in
        let same : first + k ≡ place = omega (arith, from) in
        let found : get_or between k 0 ≡ number =
        between-at k short ∙ ap (λ (n : ℕ). get_or numbers n 0) same ∙ is in
        elim (cases_lt k index) [
          | inl less ↦ let small = before k less in omega (arith, small, found)
          | inr most ↦ let great = behind k most (omega (arith, short, between-length)) in omega (arith, great, found)
        ]

-- a number of a part that comes after all
pub none_after : (numbers : List ℕ) (shift number : ℕ) (starts : List ℕ) → AreParted numbers shift starts
    → length starts ≤ number / 2 ^ shift + 1 → LacksNumber numbers number
none_after numbers shift number starts are past place low is =
    let below = are.all place low in
    omega (arith, below, past, ap (λ (n : ℕ). n / 2 ^ shift) is)

pub parts_below : (numbers : List ℕ) (shift last : ℕ) → AreUpTo numbers last
    → AreBelow numbers shift (last / 2 ^ shift + 1)
parts_below numbers shift last up place low =
    let part = parts_ascend shift (get_or numbers place 0) last (up place low) in
    omega (arith, part)

-- a part is at most half of the number
pub half : (number shift : ℕ) → 0 < shift → number < 2 ^ 64 → number / 2 ^ shift ≤ 2 ^ 63
half number zero some fits = absurd (omega (arith, some))
half number (suc shift) some fits =
    let positive : 0 < 2 ^ shift = pow_pos shift in
    let double : 2 ^ suc shift ≡ 2 * 2 ^ shift = pow-succ' 2 shift in
    div-le_of_le-mul (2 ^ suc shift) (omega (arith, positive, double, fits))

-- numbers with the starts of their parts
pub parted : (numbers : List ℕ) (shift parts : ℕ) (starts : List ℕ) → Ascends numbers → (0 < shift) × (shift < 64)
    → AreBelow numbers shift parts → length starts ≡ parts + 1 → AreStarts numbers shift starts
    → AreParted numbers shift starts
parted numbers shift parts starts ascends few below size are = record {
  ascends = ascends;
  few = few;
  some = omega (arith, size);
  each = are;
  all = λ place low. let part = below place low in omega (arith, part, size);
}
