-- Numbers and their digits, the most significant first.
use Rattle.std.proofs.Common.{◌≡◌, ℕ, zero, suc, ◌+◌, ◌*◌, ◌/◌, ◌%◌, ◌^◌, ◌<◌, ◌≤◌, List, [], ◌∷◌, ◌++◌, length, refl}
use Rattle.std.proofs.Common.{ap, ◌∙◌, subst, arith, mod-lt, div-add-mod', mul-le-mul_right, suc-mul, mul_assoc}
use Rattle.std.proofs.Common.{add-mul}
use Rattle.std.proofs.Math.Nat.{one-le-pow, pow-zero, pow-succ', div-lt_iff_lt-mul}
use Rattle.std.proofs.lemmas.Nat.{div-mul-add, mod-mul-add, pow-add}
use Rattle.std.specs.List.{All}
use Rattle.std.proofs.lemmas.List.{length-append}
use Rattle.std.proofs.lemmas.List.Elements.{All-head, All-tail, All-nil, All-cons}
use Rattle.positions.specs.Ranks.{number_of, digits_of}

pub length-digits_of : (base count number : ℕ) → length (digits_of base count number) ≡ count
length-digits_of base zero number = refl
length-digits_of base (suc count) number = ap suc (length-digits_of base count (number % base ^ count))

-- a base in which a number has a digit is not 0
pub some_base : (base count number : ℕ) → number < base ^ suc count → 1 ≤ base
some_base zero count number below = let none : 0 ^ suc count ≡ 0 * 0 ^ count = pow-succ' 0 count in omega arith
some_base (suc base) count number below = omega arith

pub number_of-digits_of : (base count number : ℕ) → number < base ^ count
    → number_of base (digits_of base count number) ≡ number
number_of-digits_of base zero number below = let one : base ^ 0 ≡ 1 = pow-zero base in omega arith
number_of-digits_of base (suc count) number below =
    let some : 1 ≤ base = some_base base count number below in
    let rest : number_of base (digits_of base count (number % base ^ count)) ≡ number % base ^ count =
    number_of-digits_of base count (number % base ^ count) (mod-lt number (one-le-pow count base some)) in
    ap (λ n. number / base ^ count * base ^ n + number_of base (digits_of base count (number % base ^ count)))
    (length-digits_of base count (number % base ^ count))
    ∙ ap (λ r. number / base ^ count * base ^ count + r) rest
    ∙ div-add-mod' number (base ^ count)

pub number_below : (base : ℕ) (labels : List ℕ) → All (λ label. label < base) labels
    → number_of base labels < base ^ length labels
number_below base [] each = let one : base ^ 0 ≡ 1 = pow-zero base in omega arith
number_below base (label ∷ labels) each =
    let low : label < base = All-head (λ l. l < base) label labels each in
    let rest : number_of base labels < base ^ length labels =
    number_below base labels (All-tail (λ l. l < base) label labels each) in
    let product : suc label * base ^ length labels ≤ base * base ^ length labels =
    mul-le-mul_right (base ^ length labels) low in
    let more : suc label * base ^ length labels ≡ label * base ^ length labels + base ^ length labels =
    suc-mul label (base ^ length labels) in
    let power : base ^ suc (length labels) ≡ base * base ^ length labels = pow-succ' base (length labels) in
    omega arith

pub digits_of-number_of : (base : ℕ) (labels : List ℕ) → All (λ label. label < base) labels
    → digits_of base (length labels) (number_of base labels) ≡ labels
digits_of-number_of base [] each = refl
digits_of-number_of base (label ∷ labels) each =
    let rest : number_of base labels < base ^ length labels =
    number_below base labels (All-tail (λ l. l < base) label labels each) in
    let first : (label * base ^ length labels + number_of base labels) / base ^ length labels ≡ label =
    div-mul-add label (base ^ length labels) (number_of base labels) rest in
    let others : digits_of base (length labels)
    ((label * base ^ length labels + number_of base labels) % base ^ length labels) ≡ labels =
    ap (digits_of base (length labels)) (mod-mul-add label (base ^ length labels) (number_of base labels) rest)
    ∙ digits_of-number_of base labels (All-tail (λ l. l < base) label labels each) in
    λ i. first i ∷ others i

pub digits_below : (base count number : ℕ) → number < base ^ count
    → All (λ label. label < base) (digits_of base count number)
digits_below base zero number below = All-nil (λ label. label < base)
digits_below base (suc count) number below =
    let some : 1 ≤ base = some_base base count number below in
    All-cons (λ label. label < base) (number / base ^ count) (digits_of base count (number % base ^ count))
    ((div-lt_iff_lt-mul (one-le-pow count base some)).1 (subst (λ n. number < n) (pow-succ' base count) below))
    (digits_below base count (number % base ^ count) (mod-lt number (one-le-pow count base some)))

-- ---- numbers of lists that are made of others

pub number_of-append : (base : ℕ) (front back : List ℕ)
    → number_of base (front ++ back) ≡ number_of base front * base ^ length back + number_of base back
number_of-append base [] back = omega arith
number_of-append base (label ∷ front) back =
    let rest : number_of base (front ++ back) ≡ number_of base front * base ^ length back + number_of base back =
    number_of-append base front back in
    let power : base ^ length (front ++ back) ≡ base ^ length front * base ^ length back =
    ap (λ n. base ^ n) (length-append front back) ∙ pow-add base (length front) (length back) in
    let product : label * base ^ length (front ++ back) ≡ label * (base ^ length front * base ^ length back) =
    ap (λ n. label * n) power in
    let grouped : label * base ^ length front * base ^ length back
    ≡ label * (base ^ length front * base ^ length back) =
    mul_assoc label (base ^ length front) (base ^ length back) in
    let spread : (label * base ^ length front + number_of base front) * base ^ length back
    ≡ label * base ^ length front * base ^ length back + number_of base front * base ^ length back =
    add-mul (label * base ^ length front) (number_of base front) (base ^ length back) in
    omega arith

-- the number of a list by a label, the labels before it and the labels after it
pub number_of-between : (base : ℕ) (front : List ℕ) (label : ℕ) (back : List ℕ)
    → number_of base (front ++ label ∷ back)
    ≡ (number_of base front * base + label) * base ^ length back + number_of base back
number_of-between base front label back =
    let whole : number_of base (front ++ label ∷ back)
    ≡ number_of base front * base ^ suc (length back) + (label * base ^ length back + number_of base back) =
    number_of-append base front (label ∷ back) in
    let power : number_of base front * base ^ suc (length back) ≡ number_of base front * (base * base ^ length back) =
    ap (λ n. number_of base front * n) (pow-succ' base (length back)) in
    let grouped : number_of base front * base * base ^ length back
    ≡ number_of base front * (base * base ^ length back) =
    mul_assoc (number_of base front) base (base ^ length back) in
    let spread : (number_of base front * base + label) * base ^ length back
    ≡ number_of base front * base * base ^ length back + label * base ^ length back =
    add-mul (number_of base front * base) label (base ^ length back) in
    omega arith

-- the number of a list with one more label at its end
pub number_of-push : (base : ℕ) (labels : List ℕ) (label : ℕ)
    → number_of base (labels ++ label ∷ []) ≡ number_of base labels * base + label
number_of-push base labels label =
    let none : base ^ 0 ≡ 1 = pow-zero base in
    let one : base ^ 1 ≡ base = pow-succ' base 0 ∙ ap (λ n. base * n) none ∙ omega arith in
    let whole : number_of base (labels ++ label ∷ []) ≡ number_of base labels * base ^ 1 + (label * base ^ 0 + 0) =
    number_of-append base labels (label ∷ []) in
    whole ∙ ap (λ n. number_of base labels * n + (label * base ^ 0 + 0)) one
    ∙ ap (λ n. number_of base labels * base + (label * n + 0)) none ∙ omega arith
