-- The parts of a line, one after the other.
use Rattle.std.proofs.Common.{◌≡◌, ℕ, ◌^◌, ◌<◌, ◌≤◌, List, [], ◌∷◌, ◌++◌, length, All, get_or, refl, sym, ap, ◌∙◌}
use Rattle.std.proofs.Common.{append_assoc, arith}
use Rattle.std.specs.Fmt.{decimal}
use Rattle.std.specs.List.{AllByRecursion}
use Rattle.std.proofs.lemmas.List.{append_cancel_left, append-nil, length-append, get_or_at, nil_from_length}
use Rattle.std.proofs.lemmas.List.Elements.{recursion_from_All}
use Rattle.board_text.specs.LineForms.{NoDigit, number_line, spaced_numbers, numbers_line}
use Rattle.board_text.specs.Ranges.{AreNumbers}
use Rattle.board_text.proofs.Numbers.{number_split}

-- a text and its beginning leave one rest
pub after : (text old rest more : List ℕ) → old ≡ text ++ rest → old ≡ text ++ more → rest ≡ more
after text old rest more p q = append_cancel_left text rest more (sym p ∙ q)

pub number_line_parts : (word : List ℕ) (n : ℕ) (more : List ℕ)
    → number_line word n ++ more ≡ word ++ 32 ∷ (decimal n ++ 10 ∷ more)
number_line_parts word n more = simp append_assoc

pub number_line_number : (word : List ℕ) (n : ℕ) (old space rest more : List ℕ) → old ≡ word ++ space
    → space ≡ (32 ∷ []) ++ rest → old ≡ number_line word n ++ more → rest ≡ decimal n ++ 10 ∷ more
number_line_number word n old space rest more p q e =
    let s : space ≡ 32 ∷ (decimal n ++ 10 ∷ more) =
    after word old space (32 ∷ (decimal n ++ 10 ∷ more)) p (e ∙ number_line_parts word n more) in cc

no_digit_lf : (more : List ℕ) → NoDigit (10 ∷ more)
no_digit_lf more = λ h. omega (arith, h.0)

pub number_line_end : (word : List ℕ) (m n : ℕ) (old space number rest more : List ℕ) → old ≡ word ++ space
    → space ≡ (32 ∷ []) ++ number → number ≡ decimal m ++ rest → NoDigit rest → m < 2 ^ 32 → n < 2 ^ 32
    → old ≡ number_line word n ++ more → (m ≡ n) × (rest ≡ (10 ∷ []) ++ more)
number_line_end word m n old space number rest more p q r no_digit small_m small_n e =
    number_split m n rest (10 ∷ more) (omega arith) (omega arith) no_digit (no_digit_lf more)
    (sym r ∙ number_line_number word n old space number more p q e)

pub same_rest : (old rest more : List ℕ) → old ≡ (32 ∷ []) ++ rest → old ≡ 32 ∷ more → rest ≡ more
same_rest old rest more p q = cc

-- ---- numbers with a space before each

no_digit_space : (more : List ℕ) → NoDigit (32 ∷ more)
no_digit_space more = λ h. omega (arith, h.0)

spaced_cons : (n : ℕ) (ns more : List ℕ)
    → spaced_numbers (n ∷ ns) ++ more ≡ 32 ∷ (decimal n ++ (spaced_numbers ns ++ more))
spaced_cons n ns more = ap (λ (s : List ℕ). 32 ∷ s) (append_assoc (decimal n) (spaced_numbers ns) more)

no_digit_spaced : (ns more : List ℕ) → NoDigit more → NoDigit (spaced_numbers ns ++ more)
no_digit_spaced [] more h = h
no_digit_spaced (n ∷ ns) more h = no_digit_space (decimal n ++ (spaced_numbers ns ++ more))

-- the rest after the first numbers are taken
pub record Leaves (ns taken rest more : List ℕ) : Type 0 where
  pub others : List ℕ
  pub parts : ns ≡ taken ++ others
  pub spelled : rest ≡ spaced_numbers others ++ more

pub spaced_split : (taken ns rest more : List ℕ) → length taken ≤ length ns → AllByRecursion (λ n. n < 2 ^ 32) taken
    → AllByRecursion (λ n. n < 2 ^ 32) ns → (0 < length taken → NoDigit rest) → NoDigit more
    → spaced_numbers taken ++ rest ≡ spaced_numbers ns ++ more → Leaves ns taken rest more
spaced_split [] ns rest more fits p q no_rest no_more e = record { others = ns; parts = refl; spelled = e }
spaced_split (t ∷ taken) [] rest more fits p q no_rest no_more e = absurd (omega arith)
spaced_split (t ∷ taken) (n ∷ ns) rest more fits p q no_rest no_more e =
    let both : 32 ∷ (decimal t ++ (spaced_numbers taken ++ rest)) ≡ 32 ∷ (decimal n ++ (spaced_numbers ns ++ more)) =
    sym (spaced_cons t taken rest) ∙ e ∙ spaced_cons n ns more in
    let s = number_split t n (spaced_numbers taken ++ rest) (spaced_numbers ns ++ more) (omega (arith, p.0))
    (omega (arith, q.0)) (no_digit_spaced taken rest (no_rest (omega arith)))
    (no_digit_spaced ns more no_more) cc in
    let l = spaced_split taken ns rest more (omega arith) p.1 q.1 (λ h. no_rest (omega arith)) no_more s.1 in
    record { others = l.others; parts = cc; spelled = l.spelled }

pub small_numbers : (bound : ℕ) (ns : List ℕ) → bound ≤ 2 ^ 32 → All (λ n. n < bound) ns
    → AllByRecursion (λ n. n < 2 ^ 32) ns
small_numbers bound ns small all =
    recursion_from_All (λ n. n < 2 ^ 32) ns (λ k d lt. let h : get_or ns k d < bound = all k d lt in omega arith)

-- the rest begins with one more number
pub record Continues (bound : ℕ) (rest : List ℕ) : Type 0 where
  pub number : ℕ
  pub tail : List ℕ
  pub in_range : number < bound
  pub no_digit : NoDigit tail
  pub spelled : rest ≡ 32 ∷ (decimal number ++ tail)

one_more : (bound : ℕ) (taken others rest more : List ℕ) → length taken < length (taken ++ others)
    → All (λ n. n < bound) (taken ++ others) → NoDigit more → rest ≡ spaced_numbers others ++ more
    → Continues bound rest
one_more bound taken [] rest more lt all no_more e = absurd (omega (arith, length-append taken []))
one_more bound taken (n ∷ others) rest more lt all no_more e =
    let h = all (length taken) 0 lt in
    record {
      number = n;
      tail = spaced_numbers others ++ more;
      in_range = rw (get_or_at taken n others 0 (length taken) refl) at h;
      no_digit = no_digit_spaced others more no_more;
      spelled = e ∙ spaced_cons n others more;
    }

pub continues : (count bound : ℕ) (taken ns old rest more : List ℕ) → bound ≤ 2 ^ 32
    → old ≡ spaced_numbers taken ++ rest → All (λ n. n < bound) taken → length taken < count
    → (0 < length taken → NoDigit rest) → AreNumbers count bound ns → NoDigit more → old ≡ spaced_numbers ns ++ more
    → Continues bound rest
continues count bound taken ns old rest more small so_far all lt no_rest are no_more e =
    let l = spaced_split taken ns rest more (omega (arith, are.0)) (small_numbers bound taken small all)
    (small_numbers bound ns small are.1) no_rest no_more (sym so_far ∙ e) in
    one_more bound taken l.others rest more (omega (arith, are.0, ap length l.parts))
    (rw (l.parts) at are.1) no_more l.spelled

pub numbers_line_parts : (word ns more : List ℕ)
    → numbers_line word ns ++ more ≡ word ++ (spaced_numbers ns ++ 10 ∷ more)
numbers_line_parts word ns more = simp append_assoc

pub numbers_line_numbers : (word ns old rest more : List ℕ) → old ≡ word ++ rest → old ≡ numbers_line word ns ++ more
    → rest ≡ spaced_numbers ns ++ 10 ∷ more
numbers_line_numbers word ns old rest more p e =
    after word old rest (spaced_numbers ns ++ 10 ∷ more) p (e ∙ numbers_line_parts word ns more)

pub numbers_line_end : (count bound : ℕ) (word taken ns old numbers rest more : List ℕ) → bound ≤ 2 ^ 32
    → old ≡ word ++ numbers → numbers ≡ spaced_numbers taken ++ rest → AreNumbers count bound taken → NoDigit rest
    → AreNumbers count bound ns
    → old ≡ numbers_line word ns ++ more → (taken ≡ ns) × (rest ≡ 10 ∷ more)
numbers_line_end count bound word taken ns old numbers rest more small p q are_taken no_digit are e =
    let l = spaced_split taken ns rest (10 ∷ more) (omega (arith, are.0, are_taken.0))
    (small_numbers bound taken small are_taken.1) (small_numbers bound ns small are.1) (λ h. no_digit)
    (no_digit_lf more) (sym q ∙ numbers_line_numbers word ns old numbers more p e) in
    let none : l.others ≡ [] = nil_from_length l.others
    (omega (arith, are.0, are_taken.0, ap length l.parts, length-append taken l.others)) in (
      sym (l.parts ∙ ap (λ (o : List ℕ). taken ++ o) none ∙ append-nil taken),
      l.spelled ∙ ap (λ (o : List ℕ). spaced_numbers o ++ 10 ∷ more) none,
    )

-- ---- a line has one reading

pub number_line_unique : (word : List ℕ) (m n : ℕ) (x y : List ℕ) → m < 2 ^ 32 → n < 2 ^ 32
    → number_line word m ++ x ≡ number_line word n ++ y → (m ≡ n) × (x ≡ y)
number_line_unique word m n x y small_m small_n e =
    let parts : word ++ 32 ∷ (decimal m ++ 10 ∷ x) ≡ word ++ 32 ∷ (decimal n ++ 10 ∷ y) =
    sym (number_line_parts word m x) ∙ e ∙ number_line_parts word n y in
    let spaces : 32 ∷ (decimal m ++ 10 ∷ x) ≡ 32 ∷ (decimal n ++ 10 ∷ y) =
    append_cancel_left word (32 ∷ (decimal m ++ 10 ∷ x)) (32 ∷ (decimal n ++ 10 ∷ y)) parts in
    let rest : decimal m ++ 10 ∷ x ≡ decimal n ++ 10 ∷ y = cc in
    let s = number_split m n (10 ∷ x) (10 ∷ y) (omega arith) (omega arith) (no_digit_lf x) (no_digit_lf y) rest in
    let tails : 10 ∷ x ≡ 10 ∷ y = s.1 in
    (s.0, cc)

pub numbers_line_unique : (count bound : ℕ) (word ms ns x y : List ℕ) → bound ≤ 2 ^ 32 → AreNumbers count bound ms
    → AreNumbers count bound ns → numbers_line word ms ++ x ≡ numbers_line word ns ++ y → (ms ≡ ns) × (x ≡ y)
numbers_line_unique count bound word ms ns x y small are_ms are_ns e =
    let s = numbers_line_end count bound word ms ns (numbers_line word ms ++ x) (spaced_numbers ms ++ 10 ∷ x)
    (10 ∷ x) y small (numbers_line_parts word ms x) refl are_ms (no_digit_lf x) are_ns e in
    let tails : 10 ∷ x ≡ 10 ∷ y = s.1 in
    (s.0, cc)
