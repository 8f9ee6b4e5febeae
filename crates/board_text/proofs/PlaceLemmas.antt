-- The texts of places, one after the other.
use Rattle.std.proofs.Common.{◌≡◌, ◌≢◌, ℕ, ◌+◌, ◌^◌, ◌<◌, ◌≤◌, if◌then◌else◌, Bool, true, false, List, [], ◌∷◌, ◌++◌}
use Rattle.std.proofs.Common.{length, map, take, set, All, get_or, refl, sym, ap, subst, ◌∙◌, append_assoc, arith, inl}
use Rattle.std.proofs.Common.{inr}
use Rattle.std.specs.Prelude.{codes, Option, Some, None, MatchOption}
use Rattle.std.specs.List.{AllByRecursion}
use Rattle.std.specs.Str.Parse.{IsNumeral, AllDigits}
use Rattle.std.specs.Fmt.{decimal}
use Rattle.std.proofs.lemmas.Bool.{cases_eq, eq-eqb, ne_eqb}
use Rattle.std.proofs.lemmas.Fmt.{decimal_injective, decimal_is_IsNumeral}
use Rattle.std.proofs.lemmas.Str.Parse.{tells_digits}
use Rattle.std.proofs.lemmas.List.{length-append, append-nil, flat_map_more, get_or_at, length_push, map-append}
use Rattle.std.proofs.lemmas.List.{take_more_set, get_or_append_left, append_cancel_left, length-map, nil_from_length}
use Rattle.std.proofs.lemmas.List.Elements.{recursion_from_All, All-push, All-map, All-contains, Contains-push}
use Rattle.board_text.specs.Ranges.{AreNumbers}
use Rattle.board_text.specs.LineForms.{NoDigit}
use Rattle.board_text.specs.Numerals.{spaced_texts, Says}
use Rattle.board_text.specs.PlaceForms.{place_word, spaced_places, places_line, IsPlaceText, ArePlaceTexts, SpellsPlace}
use Rattle.board_text.specs.PlaceForms.{SpellPlaces}
use Rattle.board_text.specs.declared.line_reader.Numeral.{Numeral}
use Rattle.board_text.specs.declared.line_reader.Numeral.TheVariants.{Number}
use Rattle.board_text.specs.declared.board.TheConstants.{MAX_LABELS}
use Rattle.board_text.proofs.Numbers.{digits_split}
use Rattle.board_text.proofs.NumeralLemmas.{spells_none, spells_number}

-- ---- one place

pub blank_word : (labels : ℕ) → place_word labels labels ≡ codes "-"
blank_word labels = ap (λ (b : Bool). if b then codes "-" else decimal labels) (eq-eqb labels labels refl)

pub label_word : (labels place : ℕ) → place ≢ labels → place_word labels place ≡ decimal place
label_word labels place differ = ap (λ (b : Bool). if b then codes "-" else decimal place) (ne_eqb place labels differ)

-- digits don't begin with a hyphen
no_hyphen : (digits x y : List ℕ) → IsNumeral 10 digits → digits ++ x ≡ 45 ∷ y → ⊥
no_hyphen [] x y is e = omega (arith, is.0)
no_hyphen (d ∷ digits) x y is e =
    let digit = (tells_digits.parts d digits is.1).0 in
    let same : d ≡ 45 = cc in
    omega (arith, same, digit.0)

-- the text of a place ends at the first byte that isn't a digit
pub place_text_split : (labels bound : ℕ) (d e x y : List ℕ) → IsPlaceText labels bound d → IsPlaceText labels bound e
    → NoDigit x → NoDigit y → d ++ x ≡ e ++ y → (d ≡ e) × (x ≡ y)
place_text_split labels bound d e x y (inl p) (inl q) no_x no_y same = digits_split d e x y p.1 q.1 no_x no_y same
place_text_split labels bound d e x y (inl p) (inr q) no_x no_y same =
    absurd (no_hyphen d x y p (same ∙ ap (λ (t : List ℕ). t ++ y) q.1))
place_text_split labels bound d e x y (inr p) (inl q) no_x no_y same =
    absurd (no_hyphen e y x q (sym same ∙ ap (λ (t : List ℕ). t ++ x) p.1))
place_text_split labels bound d e x y (inr p) (inr q) no_x no_y same =
    let texts : d ≡ e = p.1 ∙ sym q.1 in
    let both : e ++ x ≡ e ++ y = sym (ap (λ (t : List ℕ). t ++ x) texts) ∙ same in
    (texts, append_cancel_left e x y both)

pub word_is_text : (labels bound place : ℕ) → place < 2 ^ 32 → (place ≡ labels → labels < bound)
    → IsPlaceText labels bound (place_word labels place)
word_is_text labels bound place small room = elim (cases_eq place labels) [
  | inl blank ↦ inr (room blank, ap (place_word labels) blank ∙ blank_word labels)
  | inr label ↦ inl (subst (IsNumeral 10) (sym (label_word labels place label))
      (decimal_is_IsNumeral place (omega arith)).0)
]

pub word_injective : (labels m n : ℕ) → m < 2 ^ 32 → n < 2 ^ 32 → place_word labels m ≡ place_word labels n → m ≡ n
word_injective labels m n small_m small_n e = elim (cases_eq m labels) [
  | inl blank ↦ elim (cases_eq n labels) [
    | inl other ↦ blank ∙ sym other
    | inr label ↦ absurd (no_hyphen (decimal n) [] [] (decimal_is_IsNumeral n (omega arith)).0
        (append-nil (decimal n) ∙ sym (label_word labels n label) ∙ sym e ∙ ap (place_word labels) blank
        ∙ blank_word labels))
  ]
  | inr label ↦ elim (cases_eq n labels) [
    | inl other ↦ absurd (no_hyphen (decimal m) [] [] (decimal_is_IsNumeral m (omega arith)).0
        (append-nil (decimal m) ∙ sym (label_word labels m label) ∙ e ∙ ap (place_word labels) other
        ∙ blank_word labels))
    | inr both ↦ decimal_injective m n (omega arith) (omega arith)
        (sym (label_word labels m label) ∙ e ∙ label_word labels n both)
  ]
]

-- digits that say no label spell no place
pub spells_no_place : (labels bound : ℕ) (text : List ℕ) (numeral : Numeral) → bound ≤ labels + 1 → labels ≤ 2 ^ 16
    → IsNumeral 10 text → Says text numeral → ((n : ℕ) → n < labels → numeral ≢ Number n)
    → SpellsPlace labels bound text → ⊥
spells_no_place labels bound text numeral most few digits says not spells = elim (cases_eq spells.0 labels) [
  | inl blank ↦ no_hyphen text [] [] digits
      (append-nil text ∙ spells.2 ∙ ap (place_word labels) blank ∙ blank_word labels)
  | inr label ↦ spells_none labels text numeral (omega arith) says not
      (spells.0, (let low : spells.0 < bound = spells.1 in omega arith), spells.2 ∙ label_word labels spells.0 label)
]

-- a hyphen with digits after it is no place
pub hyphen_and_digits : (labels bound : ℕ) (old rest digits new : List ℕ) → old ≡ (45 ∷ []) ++ rest
    → rest ≡ digits ++ new → AllDigits 10 digits → (digits ≡ [] → ⊥)
    → (text more : List ℕ) → IsPlaceText labels bound text → NoDigit more → old ≢ text ++ more
hyphen_and_digits labels bound old rest [] new e f all some text more is no_more same = some refl
hyphen_and_digits labels bound old rest (d ∷ digits) new e f all some text more (inl p) no_more same =
    no_hyphen text more rest p (sym same ∙ e)
hyphen_and_digits labels bound old rest (d ∷ digits) new e f all some text more (inr p) no_more same =
    let texts : codes "-" ++ rest ≡ codes "-" ++ more = sym e ∙ same ∙ ap (λ (t : List ℕ). t ++ more) p.1 in
    let behind : more ≡ d ∷ (digits ++ new) = sym (append_cancel_left (codes "-") rest more texts) ∙ f in
    no_more (rw behind (tells_digits.parts d digits all).0)

-- a number below that of labels is the place that its digits spell
pub number_spells : (labels bound : ℕ) (text : List ℕ) (numeral : Numeral) (found : Option ℕ) → labels ≤ bound
    → bound ≤ labels + 1 → labels ≤ 2 ^ 16 → IsNumeral 10 text → Says text numeral
    → MatchOption found ((n : ℕ) → n < labels → numeral ≢ Number n) (λ n. (n < labels) × (numeral ≡ Number n))
    → MatchOption found (SpellsPlace labels bound text → ⊥)
    (λ place. (place < bound) × (text ≡ place_word labels place))
number_spells labels bound text numeral None least most few is says none =
    spells_no_place labels bound text numeral most few is says none
number_spells labels bound text numeral (Some n) least most few is says one =
    let low : n < labels = one.0 in
    (omega arith, spells_number text numeral n says one.1 ∙ sym (label_word labels n (λ e. omega arith)))

-- ---- places with a space before each

no_digit_texts : (ws : List (List ℕ)) (more : List ℕ) → NoDigit more → NoDigit (spaced_texts ws ++ more)
no_digit_texts [] more h = h
no_digit_texts (w ∷ ws) more h = λ g. omega (arith, g.0)

texts_cons : (w : List ℕ) (ws : List (List ℕ)) (more : List ℕ)
    → spaced_texts (w ∷ ws) ++ more ≡ 32 ∷ (w ++ (spaced_texts ws ++ more))
texts_cons w ws more = ap (λ (s : List ℕ). 32 ∷ s) (append_assoc w (spaced_texts ws) more)

pub record LeavesTexts (ws taken : List (List ℕ)) (rest more : List ℕ) : Type 0 where
  pub others : List (List ℕ)
  pub parts : ws ≡ taken ++ others
  pub spelled : rest ≡ spaced_texts others ++ more

pub texts_split : (labels bound : ℕ) (taken ws : List (List ℕ)) (rest more : List ℕ) → length taken ≤ length ws
    → AllByRecursion (IsPlaceText labels bound) taken → AllByRecursion (IsPlaceText labels bound) ws
    → (0 < length taken → NoDigit rest) → NoDigit more
    → spaced_texts taken ++ rest ≡ spaced_texts ws ++ more → LeavesTexts ws taken rest more
texts_split labels bound [] ws rest more fits p q no_rest no_more e = record { others = ws; parts = refl; spelled = e }
texts_split labels bound (t ∷ taken) [] rest more fits p q no_rest no_more e = absurd (omega arith)
texts_split labels bound (t ∷ taken) (w ∷ ws) rest more fits p q no_rest no_more e =
    let both : 32 ∷ (t ++ (spaced_texts taken ++ rest)) ≡ 32 ∷ (w ++ (spaced_texts ws ++ more)) =
    sym (texts_cons t taken rest) ∙ e ∙ texts_cons w ws more in
    let s = place_text_split labels bound t w (spaced_texts taken ++ rest) (spaced_texts ws ++ more) p.0 q.0
    (no_digit_texts taken rest (no_rest (omega arith))) (no_digit_texts ws more no_more) cc in
    let l = texts_split labels bound taken ws rest more (omega arith) p.1 q.1
    (λ h. no_rest (omega arith)) no_more s.1 in
    record { others = l.others; parts = cc; spelled = l.spelled }

-- the rest begins with one more place
pub record NextText (labels bound : ℕ) (rest : List ℕ) : Type 0 where
  pub text : List ℕ
  pub tail : List ℕ
  pub is : IsPlaceText labels bound text
  pub no_digit : NoDigit tail
  pub spelled : rest ≡ 32 ∷ (text ++ tail)

one_more_text : (labels bound : ℕ) (taken others : List (List ℕ)) (rest more : List ℕ)
    → length taken < length (taken ++ others) → All (IsPlaceText labels bound) (taken ++ others) → NoDigit more
    → rest ≡ spaced_texts others ++ more → NextText labels bound rest
one_more_text labels bound taken [] rest more lt all no_more e = absurd (omega (arith, length-append taken []))
one_more_text labels bound taken (w ∷ others) rest more lt all no_more e =
    let h = all (length taken) [] lt in
    record {
      text = w;
      tail = spaced_texts others ++ more;
      is = rw (get_or_at taken w others [] (length taken) refl) at h;
      no_digit = no_digit_texts others more no_more;
      spelled = e ∙ texts_cons w others more;
    }

pub next_text : (count labels bound : ℕ) (taken ws : List (List ℕ)) (old rest more : List ℕ)
    → old ≡ spaced_texts taken ++ rest → All (IsPlaceText labels bound) taken → length taken < count
    → (0 < length taken → NoDigit rest) → ArePlaceTexts count labels bound ws → NoDigit more
    → old ≡ spaced_texts ws ++ more → NextText labels bound rest
next_text count labels bound taken ws old rest more so_far all lt no_rest are no_more e =
    let l = texts_split labels bound taken ws rest more (omega (arith, are.0))
    (recursion_from_All (IsPlaceText labels bound) taken all)
    (recursion_from_All (IsPlaceText labels bound) ws are.1) no_rest no_more (sym so_far ∙ e) in
    one_more_text labels bound taken l.others rest more (omega (arith, are.0, ap length l.parts))
    (rw (l.parts) at are.1) no_more l.spelled

pub texts_push : (ws : List (List ℕ)) (w old mid rest new : List ℕ) → old ≡ spaced_texts ws ++ mid → mid ≡ 32 ∷ rest
    → rest ≡ w ++ new → old ≡ spaced_texts (ws ++ w ∷ []) ++ new
texts_push ws w old mid rest new e f g =
    e ∙ ap (λ (t : List ℕ). spaced_texts ws ++ t) (f ∙ ap (λ (t : List ℕ). 32 ∷ t) g)
    ∙ sym (append_assoc (spaced_texts ws) (32 ∷ w) new)
    ∙ ap (λ (t : List ℕ). t ++ new) (flat_map_more (λ v. 32 ∷ v) [] ws w)

-- ---- the places that texts spell

-- one more text that spells a place below the bound
pub spell_some : (labels bound : ℕ) (texts : List (List ℕ)) (are : Bool) (numbers : List ℕ) (i : ℕ) (text : List ℕ)
    (n : ℕ)
    → i < length numbers → n < bound → text ≡ place_word labels n
    → SpellPlaces labels bound texts are (take i numbers)
    → SpellPlaces labels bound (texts ++ text ∷ []) are (take (i + 1) (set numbers i n))
spell_some labels bound texts true numbers i text n inside below spelled so_far =
    let more : take (i + 1) (set numbers i n) ≡ take i numbers ++ n ∷ [] = take_more_set numbers i n inside in
    rw more (
      All-push (λ m. m < bound) (take i numbers) n so_far.0 below,
      ap (λ (ts : List (List ℕ)). ts ++ text ∷ []) so_far.1
          ∙ ap (λ (t : List ℕ). map (place_word labels) (take i numbers) ++ t ∷ []) spelled
          ∙ sym (map-append (place_word labels) (take i numbers) (n ∷ [])),
    )
spell_some labels bound texts false numbers i text n inside below spelled so_far =
    λ all. so_far (λ k d lt.
    let h : SpellsPlace labels bound (get_or (texts ++ text ∷ []) k d) =
    all k d (omega (arith, lt, length_push texts text)) in
    subst (λ (t : List ℕ). SpellsPlace labels bound t) (get_or_append_left texts (text ∷ []) d k lt) h)

-- one more text that spells no place
pub spell_none : (labels bound : ℕ) (texts : List (List ℕ)) (text : List ℕ) (numbers : List ℕ)
    → (SpellsPlace labels bound text → ⊥) → SpellPlaces labels bound (texts ++ text ∷ []) false numbers
spell_none labels bound texts text numbers none =
    λ all. none (All-contains (SpellsPlace labels bound) (texts ++ text ∷ []) text all (Contains-push texts text))

-- ---- a line of places

no_digit_lf : (more : List ℕ) → NoDigit (10 ∷ more)
no_digit_lf more = λ h. omega (arith, h.0)

pub texts_unique : (count labels bound : ℕ) (ws vs : List (List ℕ)) (x y : List ℕ) → ArePlaceTexts count labels bound ws
    → ArePlaceTexts count labels bound vs → NoDigit x → NoDigit y → spaced_texts ws ++ x ≡ spaced_texts vs ++ y
    → (ws ≡ vs) × (x ≡ y)
texts_unique count labels bound ws vs x y p q no_x no_y e =
    let l = texts_split labels bound ws vs x y (omega (arith, p.0, q.0))
    (recursion_from_All (IsPlaceText labels bound) ws p.1) (recursion_from_All (IsPlaceText labels bound) vs q.1)
    (λ h. no_x) no_y e in
    let none : l.others ≡ [] = nil_from_length l.others
    (omega (arith, p.0, q.0, ap length l.parts, length-append ws l.others)) in (
      sym (l.parts ∙ ap (λ (o : List (List ℕ)). ws ++ o) none ∙ append-nil ws),
      l.spelled ∙ ap (λ (o : List (List ℕ)). spaced_texts o ++ y) none,
    )

pub words_are_texts : (count labels bound : ℕ) (places : List ℕ) → bound ≤ 2 ^ 16 → AreNumbers count bound places
    → ArePlaceTexts count labels bound (map (place_word labels) places)
words_are_texts count labels bound places few are = (
  length-map places (place_word labels) ∙ are.0,
  All-map (IsPlaceText labels bound) (place_word labels) places (λ k d inside.
      let low : get_or places k d < bound = are.1 k d inside in
      word_is_text labels bound (get_or places k d) (omega arith) (λ blank. omega arith)),
)

pub words_spell : (count labels bound : ℕ) (places : List ℕ) → AreNumbers count bound places
    → All (SpellsPlace labels bound) (map (place_word labels) places)
words_spell count labels bound places are =
    All-map (SpellsPlace labels bound) (place_word labels) places
    (λ k d inside. (get_or places k d, are.1 k d inside, refl))

pub same_words : (labels : ℕ) (ms ns : List ℕ) → AllByRecursion (λ n. n < 2 ^ 32) ms
    → AllByRecursion (λ n. n < 2 ^ 32) ns → map (place_word labels) ms ≡ map (place_word labels) ns → ms ≡ ns
same_words labels [] [] p q e = refl
same_words labels [] (n ∷ ns) p q e = absurd (omega (arith, ap length e))
same_words labels (m ∷ ms) [] p q e = absurd (omega (arith, ap length e))
same_words labels (m ∷ ms) (n ∷ ns) p q e =
    let words : place_word labels m ≡ place_word labels n = cc in
    let others : map (place_word labels) ms ≡ map (place_word labels) ns = cc in
    let first : m ≡ n = word_injective labels m n p.0 q.0 words in
    let rest : ms ≡ ns = same_words labels ms ns p.1 q.1 others in
    cc

places_line_parts : (labels : ℕ) (word places more : List ℕ)
    → places_line labels word places ++ more ≡ word ++ (spaced_places labels places ++ 10 ∷ more)
places_line_parts labels word places more = simp append_assoc

pub places_line_places : (labels : ℕ) (word places old rest more : List ℕ) → old ≡ word ++ rest
    → old ≡ places_line labels word places ++ more → rest ≡ spaced_places labels places ++ 10 ∷ more
places_line_places labels word places old rest more p e =
    append_cancel_left word rest (spaced_places labels places ++ 10 ∷ more)
    (sym p ∙ e ∙ places_line_parts labels word places more)

-- the texts taken of a line of places are all of its places
pub places_line_end : (count labels : ℕ) (word places : List ℕ) (texts : List (List ℕ)) (old rest new more : List ℕ)
    → labels ≤ MAX_LABELS → old ≡ word ++ rest → rest ≡ spaced_texts texts ++ new
    → ArePlaceTexts count labels (labels + 1) texts → NoDigit new
    → AreNumbers count (labels + 1) places → old ≡ places_line labels word places ++ more
    → (texts ≡ map (place_word labels) places) × (new ≡ 10 ∷ more)
places_line_end count labels word places texts old rest new more few p q are_texts no_digit are e =
    texts_unique count labels (labels + 1) texts (map (place_word labels) places) new (10 ∷ more) are_texts
    (words_are_texts count labels (labels + 1) places (omega arith) are) no_digit (no_digit_lf more)
    (sym q ∙ places_line_places labels word places old rest more p e)

-- a line of places is read in one way
pub places_line_unique : (labels : ℕ) (word ms ns x y : List ℕ) → AllByRecursion (λ n. n < 2 ^ 32) ms
    → AllByRecursion (λ n. n < 2 ^ 32) ns → places_line labels word ms ++ x ≡ places_line labels word ns ++ y
    → (ms ≡ ns) × (x ≡ y)
places_line_unique labels word ms ns x y small_ms small_ns e =
    same ms ns small_ms small_ns (append_cancel_left word (spaced_places labels ms ++ 10 ∷ x)
    (spaced_places labels ns ++ 10 ∷ y)
    (sym (places_line_parts labels word ms x) ∙ e ∙ places_line_parts labels word ns y))
  where
    same : (ks js : List ℕ) → AllByRecursion (λ n. n < 2 ^ 32) ks → AllByRecursion (λ n. n < 2 ^ 32) js
        → spaced_places labels ks ++ 10 ∷ x ≡ spaced_places labels js ++ 10 ∷ y → (ks ≡ js) × (x ≡ y)
    same [] [] p q h = (refl, cc)
    same [] (j ∷ js) p q h = absurd (let heads : 10 ≡ 32 = ap (λ (t : List ℕ). get_or t 0 0) h in omega (arith, heads))
    same (k ∷ ks) [] p q h = absurd (let heads : 32 ≡ 10 = ap (λ (t : List ℕ). get_or t 0 0) h in omega (arith, heads))
    same (k ∷ ks) (j ∷ js) p q h =
        let both : 32 ∷ (place_word labels k ++ (spaced_places labels ks ++ 10 ∷ x))
        ≡ 32 ∷ (place_word labels j ++ (spaced_places labels js ++ 10 ∷ y)) =
        sym (texts_cons (place_word labels k) (map (place_word labels) ks) (10 ∷ x)) ∙ h
        ∙ texts_cons (place_word labels j) (map (place_word labels) js) (10 ∷ y) in
        let s = place_text_split labels (labels + 1) (place_word labels k) (place_word labels j)
        (spaced_places labels ks ++ 10 ∷ x) (spaced_places labels js ++ 10 ∷ y)
        (word_is_text labels (labels + 1) k p.0 (λ blank. omega arith))
        (word_is_text labels (labels + 1) j q.0 (λ blank. omega arith))
        (no_digit_texts (map (place_word labels) ks) (10 ∷ x) (no_digit_lf x))
        (no_digit_texts (map (place_word labels) js) (10 ∷ y) (no_digit_lf y)) cc in
        let first : k ≡ j = word_injective labels k j p.0 q.0 s.0 in
        let rest = same ks js p.1 q.1 s.1 in
        let others : ks ≡ js = rest.0 in
        (cc, rest.1)
