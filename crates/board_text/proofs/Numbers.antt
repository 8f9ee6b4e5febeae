-- Digits, and the bytes after them.
use Rattle.std.proofs.Common.{◌≡◌, ◌≢◌, ℕ, ◌^◌, ◌<◌, ◌≤◌, ◌+◌, true, false, List, [], ◌∷◌, ◌++◌, length, get_or, take}
use Rattle.std.proofs.Common.{drop, leb, one-add, zero, suc, Option, Some, None, inl, inr, refl, sym, ap, ◌∙◌, arith}
use Rattle.std.specs.Prelude.{MatchOption}
use Rattle.std.specs.Char.{is_ascii_digit, IsAsciiDigit, digit_value}
use Rattle.std.specs.List.{prefix_len}
use Rattle.std.specs.Fmt.{decimal}
use Rattle.std.specs.Str.Parse.{AllDigits, digits_value}
use Rattle.std.proofs.lemmas.Fmt.{decimal_is_IsNumeral, decimal_injective, first_decimal, decimal_digit}
use Rattle.std.proofs.lemmas.Fmt.{decimal_nonempty, decimal-digits_value}
use Rattle.std.proofs.lemmas.Str.{digit_value_digit}
use Rattle.std.proofs.lemmas.Str.Parse.{IsNumeralModel, tells_digits, numerals_by_value, digit_from_value}
use Rattle.std.proofs.lemmas.Bool.{cases_lt, and_parts, and_from, both_ways, leb-true, le-leb, cond_both}
use Rattle.board_text.specs.LineForms.{NoDigit}
use Rattle.board_text.specs.Ranges.{InRange}

tells : (b : ℕ) → is_ascii_digit b ≡ true → IsAsciiDigit b
tells b e = let p = and_parts (leb 48 b) (leb b 57) e in (leb-true 48 b p.0, leb-true b 57 p.1)

denies : (b : ℕ) → is_ascii_digit b ≡ false → IsAsciiDigit b → ⊥
denies b e h = both_ways (is_ascii_digit b) e (and_from (leb 48 b) (leb b 57) (le-leb 48 b h.0) (le-leb b 57 h.1))

pub take_digits : (bytes : List ℕ) → AllDigits 10 (take (prefix_len is_ascii_digit bytes) bytes)
take_digits [] = tt
take_digits (b ∷ bytes) =
    cond_both (is_ascii_digit b) (1 + prefix_len is_ascii_digit bytes) 0 (λ n. AllDigits 10 (take n (b ∷ bytes)))
    (λ e. rw one-add (tells_digits.more b (take (prefix_len is_ascii_digit bytes) bytes) (tells b e)
    (take_digits bytes)))
    (λ e. tt)

pub drop_digits : (bytes : List ℕ) → NoDigit (drop (prefix_len is_ascii_digit bytes) bytes)
drop_digits [] = λ h. omega (arith, h.0, h.1)
drop_digits (b ∷ bytes) =
    cond_both (is_ascii_digit b) (1 + prefix_len is_ascii_digit bytes) 0 (λ n. NoDigit (drop n (b ∷ bytes)))
    (λ e. rw one-add (drop_digits bytes))
    (λ e. denies b e)

-- digits end at the first byte that isn't one
pub digits_split : (ds es x y : List ℕ) → AllDigits 10 ds → AllDigits 10 es → NoDigit x → NoDigit y → ds ++ x ≡ es ++ y
    → (ds ≡ es) × (x ≡ y)
digits_split [] [] x y p q no_x no_y e = (refl, e)
digits_split [] (d ∷ es) x y p q no_x no_y e = absurd (no_x (rw e (tells_digits.parts d es q).0))
digits_split (d ∷ ds) [] x y p q no_x no_y e = absurd (no_y (rw (← e) (tells_digits.parts d ds p).0))
digits_split (d ∷ ds) (c ∷ es) x y p q no_x no_y e =
    let rest : ds ++ x ≡ es ++ y = cc in
    let s = digits_split ds es x y p.1 q.1 no_x no_y rest in
    let heads : d ≡ c = cc in
    (cc, s.1)

own : IsNumeralModel (AllDigits 10) (digits_value 10)
own = numerals_by_value (AllDigits 10) tells_digits

-- several digits that begin with a zero are those of no number
pub zero_leads : (digits : List ℕ) → 1 < length digits → get_or digits 0 0 ≡ 48 → (n : ℕ) → n < 2 ^ 32
    → digits ≢ decimal n
zero_leads digits long leads n small e =
    elim (cases_lt 0 n) [
      | inl positive ↦ let h : 48 < get_or (decimal n) 0 0 = first_decimal n positive (omega arith) in
          omega (arith, ap (λ (ds : List ℕ). get_or ds 0 0) e, h)
      | inr none ↦ let h : decimal n ≡ (48 + n) ∷ [] = decimal_digit n (omega arith) in omega (arith, ap length (e ∙ h))
    ]

-- no number is written without digits
pub none_written : (digits : List ℕ) → length digits ≡ 0 → (n : ℕ) → n < 2 ^ 32 → digits ≢ decimal n
none_written digits none n small e =
    let some = decimal_nonempty n (omega arith) in omega (arith, some, none, ap length e)

-- if no zero leads, digits are those of their number, which may be too large
pub spelled : (digits : List ℕ) (r : Option ℕ) → AllDigits 10 digits → 0 < length digits
    → ((1 < length digits) × (get_or digits 0 0 ≡ 48) → ⊥)
    → MatchOption r (2 ^ 32 ≤ digits_value 10 digits) (λ n. (n < 2 ^ 32) × (n ≡ digits_value 10 digits))
    → MatchOption r ((n : ℕ) → n < 2 ^ 32 → digits ≢ decimal n) (λ n. digits ≡ decimal n)
spelled digits (Some m) all some plain is =
    let one : get_or digits 0 0 ≡ 48 → length digits ≡ 1 =
    λ leads. elim (cases_lt 1 (length digits)) [
      | inl long ↦ absurd (plain (long, leads))
      | inr short ↦
          omega (arith, some)
    ] in
    rw is.1 (sym (decimal-digits_value own digits all some one (omega (arith, is.0, is.1))))
spelled digits None all some plain large =
    λ n small e. let p = decimal_is_IsNumeral n (omega arith) in
    omega (arith, large, ap (digits_value 10) e, p.1, small)

-- a byte among digits
pub digit_there : (digits : List ℕ) (place : ℕ) → place < length digits → AllDigits 10 digits
    → (48 ≤ get_or digits place 0) × (get_or digits place 0 ≤ 57)
    × (48 + digit_value (get_or digits place 0) ≡ get_or digits place 0)
digit_there [] place below all = absurd (omega arith)
digit_there (d ∷ ds) zero below all =
    let is = digit_from_value d all.0 in
    let value = digit_value_digit d is in
    (omega (arith, is.0), omega (arith, is.1), omega (arith, value, is.0))
digit_there (d ∷ ds) (suc place) below all = digit_there ds place (omega arith) all.1

pub number_split : (m n : ℕ) (x y : List ℕ) → m < 2 ^ 64 → n < 2 ^ 64 → NoDigit x → NoDigit y
    → decimal m ++ x ≡ decimal n ++ y → (m ≡ n) × (x ≡ y)
number_split m n x y small_m small_n no_x no_y e =
    let s = digits_split (decimal m) (decimal n) x y (decimal_is_IsNumeral m small_m).0.1
    (decimal_is_IsNumeral n small_n).0.1 no_x no_y e in
    (decimal_injective m n small_m small_n s.0, s.1)

-- if digits are those of no number, the text doesn't begin with a number
pub no_number : (high : ℕ) (old digits rest : List ℕ) → high < 2 ^ 32 → old ≡ digits ++ rest → AllDigits 10 digits
    → NoDigit rest → ((n : ℕ) → n < 2 ^ 32 → digits ≢ decimal n) → (low n : ℕ) (more : List ℕ) → InRange low high n
    → NoDigit more → old ≢ decimal n ++ more
no_number high old digits rest bound taken all no_digit none low n more in_range no_more e =
    let s = digits_split digits (decimal n) rest more all (decimal_is_IsNumeral n (omega arith)).0.1 no_digit no_more
    (sym taken ∙ e) in
    none n (omega arith) s.0

-- if the text begins with a number outside the range, it doesn't begin with one in the range
pub other_number : (m low high : ℕ) (old rest : List ℕ) → m < 2 ^ 32 → high < 2 ^ 32 → old ≡ decimal m ++ rest
    → NoDigit rest → (InRange low high m → ⊥) → (n : ℕ) (more : List ℕ) → InRange low high n → NoDigit more
    → old ≢ decimal n ++ more
other_number m low high old rest small bound taken no_digit outside n more in_range no_more e =
    let s = number_split m n rest more (omega arith) (omega arith) no_digit no_more (sym taken ∙ e) in
    outside (rw s.0 in_range)
