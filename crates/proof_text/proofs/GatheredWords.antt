-- Words that are gathered after a text.
use Rattle.std.proofs.Common.{◌≡◌, ℕ, ◌+◌, ◌/◌, ◌%◌, ◌<◌, ◌≤◌, inl, inr, refl, sym, ap, ◌∙◌, subst}
use Rattle.std.proofs.Common.{arith, List, [], ◌∷◌, ◌++◌, length, get_or, take, drop, append_assoc}
use borrow.Rule.Slice.PartMut.{put_mid, post_of, same_len_mid}
use Rattle.std.specs.Fmt.{decimal}
use Rattle.std.specs.Prelude.{Result, Ok, Err, is_ok, if◌then◌else◌}
use Rattle.std.specs.Str.{IsUtf8}
use Rattle.std.proofs.Math.Seq.{take-append-add}
use Rattle.std.proofs.lemmas.Bool.{cases_lt}
use Rattle.std.proofs.lemmas.Fmt.{IsAscii-decimal}
use Rattle.std.proofs.lemmas.List.{length-take-le, length-drop, length_push, take-append-le, get_or_append_left}
use Rattle.std.proofs.lemmas.List.{get_or_push}
use Rattle.std.proofs.lemmas.Str.{IsUtf8-append}
use Rattle.std.proofs.lemmas.Str.Ascii.{IsAscii-cons, IsAscii-nil}
use Rattle.board_text.specs.PlaceForms.{place_word}
use Rattle.board_text.proofs.PlaceLemmas.{blank_word}
use Rattle.board_text.proofs.WrittenNumbers.{decimal_one, decimal_more}
use Rattle.proof_text.specs.declared.row_text.Word.{Word}
use Rattle.proof_text.specs.Inside.RowText.{IsWordWith, ArePlaceWords, IsGathered}

-- ---- words

digits_two : (n : ℕ) → 10 ≤ n → n < 100 → decimal n ≡ (48 + n / 10 % 10) ∷ (48 + n % 10) ∷ []
digits_two n several few =
    let tens : n / 10 ≡ n / 10 % 10 = omega (arith, few) in
    decimal_more n several (omega (arith, few))
    ∙ ap (λ (ds : List ℕ). ds ++ (48 + n % 10) ∷ []) (ap decimal tens ∙ decimal_one (n / 10 % 10) (omega arith))

pub word_one : (n : ℕ) → n < 10 → IsWordWith (32 ∷ decimal n)
    (record { bytes = 32 ∷ (48 + n % 10) ∷ 32 ∷ 32 ∷ []; size = 2 })
word_one n few =
    let same : 48 + n ≡ 48 + n % 10 = omega (arith, few) in
    let is : decimal n ≡ (48 + n % 10) ∷ [] = decimal_one n few ∙ ap (λ d. d ∷ []) same in
    record {
      few = omega arith;
      is = ap (λ (ds : List ℕ). 32 ∷ ds) (sym is);
      ascii = IsAscii-cons 32 (decimal n) (omega arith) (IsAscii-decimal n (omega (arith, few)));
    }

pub word_two : (n : ℕ) → 10 ≤ n → n < 100
    → IsWordWith (32 ∷ decimal n) (record { bytes = 32 ∷ (48 + n / 10 % 10) ∷ (48 + n % 10) ∷ 32 ∷ []; size = 3 })
word_two n several few = record {
  few = omega arith;
  is = ap (λ (ds : List ℕ). 32 ∷ ds) (sym (digits_two n several few));
  ascii = IsAscii-cons 32 (decimal n) (omega arith) (IsAscii-decimal n (omega (arith, few)));
}

pub word_three : (n : ℕ) → 100 ≤ n → n < 1000
    → IsWordWith (32 ∷ decimal n)
    (record { bytes = 32 ∷ (48 + n / 100) ∷ (48 + n / 10 % 10) ∷ (48 + n % 10) ∷ []; size = 4 })
word_three n many few =
    let hundreds : n / 10 / 10 ≡ n / 100 = omega (arith, few) in
    let is : decimal n ≡ (48 + n / 100) ∷ (48 + n / 10 % 10) ∷ (48 + n % 10) ∷ [] =
    decimal_more n (omega (arith, many)) (omega (arith, few))
    ∙ ap (λ (ds : List ℕ). ds ++ (48 + n % 10) ∷ [])
    (decimal_more (n / 10) (omega (arith, many)) (omega (arith, few))
    ∙ ap (λ (ds : List ℕ). ds ++ (48 + n / 10 % 10) ∷ [])
    (ap decimal hundreds ∙ decimal_one (n / 100) (omega (arith, few)))) in
    record {
      few = omega arith;
      is = ap (λ (ds : List ℕ). 32 ∷ ds) (sym is);
      ascii = IsAscii-cons 32 (decimal n) (omega arith) (IsAscii-decimal n (omega (arith, few)));
    }

-- ---- the words of places

pub record AreLabelWords (labels count : ℕ) (words : List Word) : Type 0 where
  pub many : length words ≡ count
  pub each : (place : ℕ) (d : Word) → place < count → IsWordWith (32 ∷ place_word labels place) (get_or words place d)

abbrev blank : Word
blank = record { bytes = 32 ∷ 45 ∷ 32 ∷ 32 ∷ []; size = 2 }

pub places_end : (labels count : ℕ) (words all : List Word) → count ≡ labels → AreLabelWords labels count words
    → all ≡ words ++ (record { bytes = 32 ∷ 45 ∷ 32 ∷ 32 ∷ []; size = 2 }) ∷ [] → ArePlaceWords labels all
places_end labels count words all end are is = subst (ArePlaceWords labels) (sym is) (record {
  many = length_push words blank ∙ (let many : length words ≡ count = are.many in omega arith);
  each = λ place d below. elim (cases_lt place count) [
    | inl before ↦ subst (IsWordWith (32 ∷ place_word labels place))
        (sym (get_or_append_left words (blank ∷ []) d place (let many : length words ≡ count = are.many in
        omega arith)))
        (are.each place d before)
    | inr last ↦
        let same : place ≡ labels = omega arith in
        let text : 32 ∷ 45 ∷ [] ≡ 32 ∷ place_word labels place =
        ap (λ (ds : List ℕ). 32 ∷ ds) (sym (ap (place_word labels) same ∙ blank_word labels)) in
        subst (IsWordWith (32 ∷ place_word labels place))
        (sym (get_or_push words blank d place (let many : length words ≡ count = are.many in omega arith)))
        (subst (λ t. IsWordWith t blank) text (record {
          few = omega arith;
          is = refl;
          ascii = IsAscii-cons 32 (45 ∷ []) (omega arith) (IsAscii-cons 45 [] (omega arith) IsAscii-nil);
        }))
  ];
})

-- ---- gathered bytes

-- a part that was written, up to some of its bytes
pub put_taken : (a k m : ℕ) (xs ys : List ℕ) → a ≤ length xs → m ≤ length ys
    → take (a + m) (put_mid a k xs ys) ≡ take a xs ++ take m ys
put_taken a k m xs ys low few =
    let long : length (take a xs) ≡ a = length-take-le a xs low in
    ap (λ n. take (n + m) (put_mid a k xs ys)) (sym long)
    ∙ take-append-add (take a xs) (ys ++ post_of a k xs) m
    ∙ ap (λ l. take a xs ++ l) (take-append-le m ys (post_of a k xs) few)

-- the part that is written has as many bytes as it had
part_long : (count k : ℕ) (room ys : List ℕ) → length room ≡ 1024 → count + k ≤ 1024
    → length ys ≡ length (take k (drop count room)) → length ys ≡ k
part_long count k room ys all fits long =
    long ∙ length-take-le k (drop count room) (let rest = length-drop count room in omega arith)

pub gathered_more : (count k size : ℕ) (written room ys : List ℕ) → IsGathered written room count → count + k ≤ 1024
    → length ys ≡ length (take k (drop count room)) → size ≤ k → IsUtf8 (take size ys)
    → IsGathered written (put_mid count k room ys) (count + size)
gathered_more count k size written room ys is fits long few utf8 =
    let all : length room ≡ 1024 = is.size in
    let short : length ys ≡ k = part_long count k room ys all fits long in
    record {
      size = same_len_mid count k room ys long ∙ all;
      inside = omega arith;
      whole = is.whole;
      gathered = subst IsUtf8 (sym (put_taken count k size room ys (omega arith) (omega arith)))
          (IsUtf8-append (take count room) (take size ys) is.gathered utf8);
    }

pub bytes_more : (count k size : ℕ) (written room ys old : List ℕ) → IsGathered written room count → count + k ≤ 1024
    → length ys ≡ length (take k (drop count room)) → size ≤ k → written ++ take count room ≡ old
    → written ++ take (count + size) (put_mid count k room ys) ≡ old ++ take size ys
bytes_more count k size written room ys old is fits long few before =
    let all : length room ≡ 1024 = is.size in
    let short : length ys ≡ k = part_long count k room ys all fits long in
    ap (λ l. written ++ l) (put_taken count k size room ys (omega arith) (omega arith))
    ∙ sym (append_assoc written (take count room) (take size ys)) ∙ ap (λ l. l ++ take size ys) before

-- the text after bytes were appended, unless memory was refused
pub utf8_more : {T E : Type 0} (r : Result T E) (old more new : List ℕ) → new ≡ (if is_ok r then old ++ more else old)
    → IsUtf8 old → IsUtf8 more → IsUtf8 new
utf8_more (Ok x) old more new is whole part = subst IsUtf8 (sym is) (IsUtf8-append old more whole part)
utf8_more (Err x) old more new is whole part = subst IsUtf8 (sym is) whole
