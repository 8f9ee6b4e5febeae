-- The digits of numbers, one by one.
use Rattle.std.proofs.Common.{◌≡◌, ℕ, ◌+◌, ◌*◌, ◌/◌, ◌%◌, ◌^◌, ◌<◌, ◌≤◌, ◌⊎◌, inl, inr, append_assoc}
use Rattle.std.proofs.Common.{Result, Ok, Err, OnOk}
use Rattle.std.proofs.Common.{List, [], ◌∷◌, ◌++◌, map, get_or, sym, ap, refl, ◌∙◌, arith}
use Rattle.std.specs.Fmt.{decimal, digits}
use Rattle.std.specs.List.{range_with_len}
use Rattle.std.specs.Int.Digits.{digits_of}
use Rattle.std.proofs.lemmas.Fmt.{decimal-digits_of}
use Rattle.std.proofs.lemmas.Int.Digits.{digits_of_step}
use Rattle.std.proofs.lemmas.List.{map-append}
use Rattle.std.proofs.lemmas.List.FromFn.{get_or-map-range_with_len}

-- the digits of a number of 10 or more are those of its tenth, and one more
pub decimal_more : (n : ℕ) → 10 ≤ n → n < 2 ^ 32 → decimal n ≡ decimal (n / 10) ++ (48 + n % 10) ∷ []
decimal_more n several small =
    let some : 0 < n / 10 = omega (arith, several) in
    decimal-digits_of n (omega (arith, several)) (omega (arith, small))
    ∙ ap (λ (ds : List ℕ). map (λ d. 48 + d) ds) (digits_of_step 10 n (omega arith) (omega (arith, several)))
    ∙ map-append (λ d. 48 + d) (digits_of 10 (n / 10)) (n % 10 ∷ [])
    ∙ ap (λ (ds : List ℕ). ds ++ (48 + n % 10) ∷ []) (sym (decimal-digits_of (n / 10) some (omega (arith, small))))

first_digits : map decimal (range_with_len 0 10) ≡ map (λ n. (48 + n) ∷ []) (range_with_len 0 10)
unfolding digits
first_digits = refl

-- a number below 10 is its digit
pub decimal_one : (n : ℕ) → n < 10 → decimal n ≡ (48 + n) ∷ []
decimal_one n small =
    sym (get_or-map-range_with_len decimal 0 10 n n [] (omega (arith, small)) (omega arith))
    ∙ ap (λ (texts : List (List ℕ)). get_or texts n []) first_digits
    ∙ get_or-map-range_with_len (λ n. (48 + n) ∷ []) 0 10 n n [] (omega (arith, small)) (omega arith)

-- a number of two digits is these
pub decimal_two : (tens ones : ℕ) → 0 < tens → tens < 10 → ones < 10
    → decimal (10 * tens + ones) ≡ (48 + tens) ∷ (48 + ones) ∷ []
decimal_two tens ones some small last =
    let tenth : (10 * tens + ones) / 10 ≡ tens = omega (arith, last) in
    let rest : (10 * tens + ones) % 10 ≡ ones = omega (arith, last) in
    decimal_more (10 * tens + ones) (omega (arith, some)) (omega (arith, small, last))
    ∙ rw (tenth, rest) (ap (λ (ds : List ℕ). ds ++ (48 + ones) ∷ []) (decimal_one tens small))

-- and one of three digits these
pub decimal_three : (tens ones : ℕ) → 10 ≤ tens → tens < 100 → ones < 10
    → decimal (10 * tens + ones) ≡ decimal tens ++ (48 + ones) ∷ []
decimal_three tens ones some small last =
    let tenth : (10 * tens + ones) / 10 ≡ tens = omega (arith, last) in
    let rest : (10 * tens + ones) % 10 ≡ ones = omega (arith, last) in
    decimal_more (10 * tens + ones) (omega (arith, some)) (omega (arith, small, last))
    ∙ rw (tenth, rest) refl

-- a space and the digits of a number below 1000, pushed one by one
pub digits_pushed : (n : ℕ) (text spaced hundreds tens whole : List ℕ) → n < 1000 → spaced ≡ text ++ 32 ∷ []
    → ((100 ≤ n) × (hundreds ≡ spaced ++ (48 + n / 100) ∷ [])) ⊎ ((n < 100) × (hundreds ≡ spaced))
    → ((10 ≤ n) × (tens ≡ hundreds ++ (48 + n / 10 % 10) ∷ [])) ⊎ ((n < 10) × (tens ≡ hundreds))
    → whole ≡ tens ++ (48 + n % 10) ∷ [] → whole ≡ text ++ 32 ∷ decimal n
digits_pushed n text spaced hundreds tens whole small space (inl (many, first)) (inl (several, second)) last =
    let hundred : n / 10 / 10 ≡ n / 100 = omega (arith, small) in
    let digits : decimal n ≡ (48 + n / 100) ∷ (48 + n / 10 % 10) ∷ (48 + n % 10) ∷ [] =
    decimal_more n several (omega (arith, small))
    ∙ ap (λ (ds : List ℕ). ds ++ (48 + n % 10) ∷ []) (decimal_more (n / 10) (omega (arith, many)) (omega (arith, small))
    ∙ ap (λ (ds : List ℕ). ds ++ (48 + n / 10 % 10) ∷ [])
    (ap decimal hundred ∙ decimal_one (n / 100) (omega (arith, small)))) in
    last ∙ ap (λ (t : List ℕ). t ++ (48 + n % 10) ∷ [])
    (second ∙ ap (λ (t : List ℕ). t ++ (48 + n / 10 % 10) ∷ []) (first
    ∙ ap (λ (t : List ℕ). t ++ (48 + n / 100) ∷ []) space))
    ∙ append_assoc ((text ++ 32 ∷ []) ++ (48 + n / 100) ∷ []) ((48 + n / 10 % 10) ∷ []) ((48 + n % 10) ∷ [])
    ∙ append_assoc (text ++ 32 ∷ []) ((48 + n / 100) ∷ []) ((48 + n / 10 % 10) ∷ (48 + n % 10) ∷ [])
    ∙ append_assoc text (32 ∷ []) ((48 + n / 100) ∷ (48 + n / 10 % 10) ∷ (48 + n % 10) ∷ [])
    ∙ ap (λ (ds : List ℕ). text ++ 32 ∷ ds) (sym digits)
digits_pushed n text spaced hundreds tens whole small space (inl (many, first)) (inr (few, second)) last =
    absurd (omega (arith, many, few))
digits_pushed n text spaced hundreds tens whole small space (inr (less, first)) (inl (several, second)) last =
    let digits : decimal n ≡ (48 + n / 10 % 10) ∷ (48 + n % 10) ∷ [] =
    decimal_more n several (omega (arith, small))
    ∙ ap (λ (ds : List ℕ). ds ++ (48 + n % 10) ∷ [])
    (ap decimal (omega (arith, less)) ∙ decimal_one (n / 10 % 10) (omega arith)) in
    last ∙ ap (λ (t : List ℕ). t ++ (48 + n % 10) ∷ [])
    (second ∙ ap (λ (t : List ℕ). t ++ (48 + n / 10 % 10) ∷ []) (first ∙ space))
    ∙ append_assoc (text ++ 32 ∷ []) ((48 + n / 10 % 10) ∷ []) ((48 + n % 10) ∷ [])
    ∙ append_assoc text (32 ∷ []) ((48 + n / 10 % 10) ∷ (48 + n % 10) ∷ [])
    ∙ ap (λ (ds : List ℕ). text ++ 32 ∷ ds) (sym digits)
digits_pushed n text spaced hundreds tens whole small space (inr (less, first)) (inr (few, second)) last =
    let digits : decimal n ≡ (48 + n % 10) ∷ [] =
    ap decimal (omega (arith, few)) ∙ decimal_one (n % 10) (omega arith) in
    last ∙ ap (λ (t : List ℕ). t ++ (48 + n % 10) ∷ []) (second ∙ first ∙ space)
    ∙ append_assoc text (32 ∷ []) ((48 + n % 10) ∷ [])
    ∙ ap (λ (ds : List ℕ). text ++ 32 ∷ ds) (sym digits)

-- a fact of success gives each fact that follows from it
pub on_ok : {E P Q : Type 0} (result : Result (Unit {0}) E) → (P → Q) → OnOk result P → OnOk result Q
on_ok (Ok value) gives holds = gives holds
on_ok (Err error) gives holds = holds
