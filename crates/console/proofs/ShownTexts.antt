-- Texts as a person is shown them.
use Rattle.std.proofs.Common.{◌≡◌, ◌+◌, ◌-◌, ◌%◌, ◌^◌, ◌<◌, ◌≤◌, ◌⊎◌, ℕ, zero, suc, Bool, true, false, ◌&&◌, ◌||◌}
use Rattle.std.proofs.Common.{List, [], ◌∷◌, ◌++◌, length, take, drop, get_or, refl, sym, ap, subst, ◌∙◌, arith}
use Rattle.std.proofs.Common.{inl, inr, le-ltb, length-drop}
use Rattle.std.proofs.Math.Seq.{drop-length, take-length, take-suc}
use Rattle.std.proofs.lemmas.Bool.{ne_eqb}
use Rattle.std.proofs.lemmas.Fmt.{decimal_by_steps}
use Rattle.std.proofs.lemmas.List.{append-nil, append_assoc}
use Rattle.std.specs.Fmt.{decimal}
use Rattle.std.specs.Prelude.{cond, nat_eq, nat_lt}
use Rattle.console.specs.Inside.Showing.{IsWidth}
use Rattle.console.specs.Showing.{HasNoControl, are_control, is_control, shown}

-- ---- one character

by_cases : (b : Bool) (x y : List ℕ) → (elim b as (λ _. List ℕ) [ true ↦ x | false ↦ y ]) ≡ cond b x y
by_cases true x y = refl
by_cases false x y = refl

shown_pair : (byte next : ℕ) (rest : List ℕ) → shown (byte ∷ next ∷ rest)
    ≡ cond (are_control byte next) (63 ∷ shown rest) (cond (is_control byte) 63 byte ∷ shown (next ∷ rest))
unfolding shown
shown_pair byte next rest =
    by_cases (are_control byte next) (63 ∷ shown rest) (cond (is_control byte) 63 byte ∷ shown (next ∷ rest))

shown_two : (byte next : ℕ) (rest : List ℕ) → are_control byte next ≡ true
    → shown (byte ∷ next ∷ rest) ≡ 63 ∷ shown rest
shown_two byte next rest two =
    shown_pair byte next rest
    ∙ ap (λ (c : Bool). cond c (63 ∷ shown rest) (cond (is_control byte) 63 byte ∷ shown (next ∷ rest))) two

shown_one : (byte next : ℕ) (rest : List ℕ) → are_control byte next ≡ false
    → shown (byte ∷ next ∷ rest) ≡ cond (is_control byte) 63 byte ∷ shown (next ∷ rest)
shown_one byte next rest one =
    shown_pair byte next rest
    ∙ ap (λ (c : Bool). cond c (63 ∷ shown rest) (cond (is_control byte) 63 byte ∷ shown (next ∷ rest))) one

none_two : (byte next : ℕ) → nat_eq byte 194 ≡ false → are_control byte next ≡ false
none_two byte next other = ap (λ (c : Bool). c && (nat_lt 127 next && nat_lt next 160)) other

shown_plain : (byte : ℕ) (rest : List ℕ) → is_control byte ≡ false → nat_eq byte 194 ≡ false
    → shown (byte ∷ rest) ≡ byte ∷ shown rest
unfolding shown
shown_plain byte [] plain other =
    ap (λ (c : Bool). cond (c || nat_eq byte 194) 63 byte ∷ []) plain
    ∙ ap (λ (c : Bool). cond c 63 byte ∷ []) other
shown_plain byte (next ∷ rest) plain other =
    shown_one byte next rest (none_two byte next other)
    ∙ ap (λ (c : Bool). cond c 63 byte ∷ shown (next ∷ rest)) plain

-- ---- texts that are shown as they are

same_head : (x y : ℕ) (xs ys : List ℕ) → ◌≡◌ {A = List ℕ} (x ∷ xs) (y ∷ ys) → x ≡ y
same_head x y xs ys same = cc

same_tail : (x y : ℕ) (xs ys : List ℕ) → ◌≡◌ {A = List ℕ} (x ∷ xs) (y ∷ ys) → xs ≡ ys
same_tail x y xs ys same = cc

either_false : (a b : Bool) → (a || b) ≡ false → (a ≡ false) × (b ≡ false)
either_false true b none = cc
either_false false b none = (refl, none)

-- a byte that is shown as it is at the end
plain_at_end : (byte : ℕ) (c : Bool) → (is_control byte || nat_eq byte 194) ≡ c → cond c 63 byte ≡ byte
    → (is_control byte || nat_eq byte 194) ≡ false
plain_at_end byte true is same =
    let bad : (is_control 63 || nat_eq 63 194) ≡ true =
    subst (λ (b : ℕ). (is_control b || nat_eq b 194) ≡ true) (sym same) is in cc
plain_at_end byte false is same = is

front_further : (byte next : ℕ) (rest more : List ℕ)
    → (HasNoControl (next ∷ rest) → shown (next ∷ (rest ++ more)) ≡ next ∷ (rest ++ shown more))
    → (two : Bool) → are_control byte next ≡ two → HasNoControl (byte ∷ next ∷ rest)
    → shown (byte ∷ next ∷ (rest ++ more)) ≡ byte ∷ next ∷ (rest ++ shown more)
front_further byte next rest more later true two plain =
    let mark : 63 ≡ byte = same_head 63 byte (shown rest) (next ∷ rest) (sym (shown_two byte next rest two) ∙ plain) in
    let bad : are_control 63 next ≡ true = subst (λ (b : ℕ). are_control b next ≡ true) (sym mark) two in cc
front_further byte next rest more later false one plain =
    let parts = sym (shown_one byte next rest one) ∙ plain in
    let head = same_head (cond (is_control byte) 63 byte) byte (shown (next ∷ rest)) (next ∷ rest) parts in
    let tail = same_tail (cond (is_control byte) 63 byte) byte (shown (next ∷ rest)) (next ∷ rest) parts in
    shown_one byte next (rest ++ more) one
    ∙ ap (λ (b : ℕ). b ∷ shown (next ∷ (rest ++ more))) head
    ∙ ap (λ (l : List ℕ). byte ∷ l) (later tail)

pub shown_front : (front more : List ℕ) → HasNoControl front → shown (front ++ more) ≡ front ++ shown more
unfolding shown
shown_front [] more plain = refl
shown_front (byte ∷ []) more plain =
    let both = either_false (is_control byte) (nat_eq byte 194) (plain_at_end byte (is_control byte || nat_eq byte 194)
    refl (same_head (cond (is_control byte || nat_eq byte 194) 63 byte) byte [] [] plain)) in
    shown_plain byte more both.0 both.1
shown_front (byte ∷ next ∷ rest) more plain =
    front_further byte next rest more (λ tail. shown_front (next ∷ rest) more tail) (are_control byte next) refl plain

pub plain_both : (first second : List ℕ) → HasNoControl first → HasNoControl second → HasNoControl (first ++ second)
plain_both first second plain plain_too =
    shown_front first second plain ∙ ap (λ (l : List ℕ). first ++ l) plain_too

-- a byte as a text is written in
plain_byte : (byte : ℕ) → 32 ≤ byte → byte < 127 → HasNoControl (byte ∷ [])
unfolding shown
plain_byte byte low high =
    let above : nat_lt byte 32 ≡ false = le-ltb byte 32 low in
    let below : nat_eq byte 127 ≡ false = ne_eqb byte 127 (λ same. omega (arith, same, high)) in
    let other : nat_eq byte 194 ≡ false = ne_eqb byte 194 (λ same. omega (arith, same, high)) in
    shown_plain byte []
    (ap (λ (c : Bool). c || nat_eq byte 127) above ∙ below) other

pub plain_decimal : (n : ℕ) → n < 2 ^ 64 → HasNoControl (decimal n)
plain_decimal n small =
    decimal_by_steps (λ k digits. HasNoControl digits)
    (λ k low. plain_byte (48 + k) (omega arith) (omega (arith, low)))
    (λ k digits many plain. plain_both digits ((48 + k % 10) ∷ []) plain
    (plain_byte (48 + k % 10) (omega arith) (omega arith)))
    n small

-- ---- what is shown is shown as it is

marked : (rest : List ℕ) → HasNoControl rest → HasNoControl (63 ∷ rest)
marked rest plain = shown_plain 63 rest refl refl ∙ ap (λ (l : List ℕ). 63 ∷ l) plain

end_again : (byte : ℕ) (c : Bool) → (is_control byte || nat_eq byte 194) ≡ c → HasNoControl (cond c 63 byte ∷ [])
unfolding shown
end_again byte true is = refl
end_again byte false is = ap (λ (c : Bool). cond c 63 byte ∷ []) is

one_of : (c : Bool) (byte : ℕ) → (cond c 63 byte ≡ byte) ⊎ (cond c 63 byte ≡ 63)
one_of true byte = inr refl
one_of false byte = inl refl

-- the first byte of what is shown
record HasHead (first : ℕ) (text : List ℕ) : Type 0 where
  head : ℕ
  tail : List ℕ
  text_is : text ≡ head ∷ tail
  head_is : (head ≡ first) ⊎ (head ≡ 63)

head_of_pair : (byte next : ℕ) (rest : List ℕ) (two : Bool) → are_control byte next ≡ two
    → HasHead byte (shown (byte ∷ next ∷ rest))
head_of_pair byte next rest true two =
    record { head = 63; tail = shown rest; text_is = shown_two byte next rest two; head_is = inr refl }
head_of_pair byte next rest false one = record {
  head = cond (is_control byte) 63 byte;
  tail = shown (next ∷ rest);
  text_is = shown_one byte next rest one;
  head_is = one_of (is_control byte) byte;
}

head_of : (byte : ℕ) (rest : List ℕ) → HasHead byte (shown (byte ∷ rest))
unfolding shown
head_of byte [] = record {
  head = cond (is_control byte || nat_eq byte 194) 63 byte;
  tail = [];
  text_is = refl;
  head_is = one_of (is_control byte || nat_eq byte 194) byte;
}
head_of byte (next ∷ rest) = head_of_pair byte next rest (are_control byte next) refl

and_false : (b : Bool) → (b && false) ≡ false
and_false true = refl
and_false false = refl

-- a byte and what is shown after it are no two
still_one : (byte next head : ℕ) → are_control byte next ≡ false → (head ≡ next) ⊎ (head ≡ 63)
    → are_control byte head ≡ false
still_one byte next head one (inl same) = subst (λ (n : ℕ). are_control byte n ≡ false) (sym same) one
still_one byte next head one (inr same) =
    subst (λ (n : ℕ). are_control byte n ≡ false) (sym same) (and_false (nat_eq byte 194))

kept : (byte next : ℕ) (later : List ℕ) → is_control byte ≡ false → are_control byte next ≡ false
    → HasHead next later → HasNoControl later → HasNoControl (byte ∷ later)
kept byte next later plain one has again =
    subst (λ (l : List ℕ). HasNoControl (byte ∷ l)) (sym has.text_is)
    (shown_one byte has.head has.tail (still_one byte next has.head one has.head_is)
    ∙ ap (λ (c : Bool). cond c 63 byte ∷ shown (has.head ∷ has.tail)) plain
    ∙ ap (λ (l : List ℕ). byte ∷ l) (subst HasNoControl has.text_is again))

one_again : (byte next : ℕ) (later : List ℕ) (control : Bool) → is_control byte ≡ control
    → are_control byte next ≡ false → HasHead next later → HasNoControl later
    → HasNoControl (cond control 63 byte ∷ later)
one_again byte next later true control one has again = marked later again
one_again byte next later false plain one has again = kept byte next later plain one has again

pair_again : (byte next : ℕ) (rest : List ℕ) → HasNoControl (shown rest) → HasNoControl (shown (next ∷ rest))
    → (two : Bool) → are_control byte next ≡ two → HasNoControl (shown (byte ∷ next ∷ rest))
pair_again byte next rest rest_again again true two =
    subst HasNoControl (sym (shown_two byte next rest two)) (marked (shown rest) rest_again)
pair_again byte next rest rest_again again false one =
    subst HasNoControl (sym (shown_one byte next rest one))
    (one_again byte next (shown (next ∷ rest)) (is_control byte) refl one (head_of next rest) again)

pub plain_if_shown : (text : List ℕ) → HasNoControl (shown text)
unfolding shown
plain_if_shown [] = refl
plain_if_shown (byte ∷ []) = end_again byte (is_control byte || nat_eq byte 194) refl
plain_if_shown (byte ∷ next ∷ rest) =
    pair_again byte next rest (plain_if_shown rest) (plain_if_shown (next ∷ rest)) (are_control byte next) refl

-- ---- texts that are written up to a control character, one after the other

pub shown_further : (whole done rest front later : List ℕ) → whole ≡ done ++ rest → rest ≡ front ++ (63 ∷ later)
    → whole ≡ ((done ++ front) ++ (63 ∷ [])) ++ later
shown_further whole done rest front later all part =
    all ∙ ap (λ (l : List ℕ). done ++ l) part ∙ sym (append_assoc done front (63 ∷ later))
    ∙ sym (append_assoc (done ++ front) (63 ∷ []) later)

pub shown_last : (whole done rest : List ℕ) → whole ≡ done ++ shown rest → shown rest ≡ rest → done ++ rest ≡ whole
shown_last whole done rest all plain = sym (all ∙ ap (λ (l : List ℕ). done ++ l) plain)

-- ---- the first control character

module _ (bytes : List ℕ) (at : ℕ) (inside : at < length bytes)
    (so_far : shown bytes ≡ take at bytes ++ shown (drop at bytes)) where
  pub one_more : (width : ℕ) → IsWidth bytes at width → width ≡ 0
      → shown bytes ≡ take (at + 1) bytes ++ shown (drop (at + 1) bytes)
  one_more zero is none =
      let one_up : at + 1 ≡ suc at = omega arith in
      let more : take (at + 1) bytes ≡ take at bytes ++ (get_or bytes at 0 ∷ []) =
      rw one_up (take-suc bytes at 0 inside) in
      so_far ∙ ap (λ (l : List ℕ). take at bytes ++ l) is
      ∙ sym (append_assoc (take at bytes) (get_or bytes at 0 ∷ []) (shown (drop (at + 1) bytes)))
      ∙ ap (λ (l : List ℕ). l ++ shown (drop (at + 1) bytes)) (sym more)
  one_more (suc width) is none = absurd (omega (arith, none))

  -- the bytes after it, as a slice
  pub found_around : (width : ℕ) → IsWidth bytes at width → 0 < width
      → (shown bytes ≡ take at bytes ++ (63 ∷ shown (take (length bytes - (at + width)) (drop (at + width) bytes))))
      × (length (take (length bytes - (at + width)) (drop (at + width) bytes)) < length bytes)
  found_around zero is some = absurd (omega (arith, some))
  found_around (suc width) (within, is) some =
      let long : length (drop (at + suc width) bytes) ≡ length bytes - (at + suc width) =
      length-drop (at + suc width) bytes in
      let rest : take (length bytes - (at + suc width)) (drop (at + suc width) bytes) ≡ drop (at + suc width) bytes =
      ap (λ (n : ℕ). take n (drop (at + suc width) bytes)) (sym long) ∙ take-length (drop (at + suc width) bytes) in
      rw rest (so_far ∙ ap (λ (l : List ℕ). take at bytes ++ l) is, omega (arith, long, within, inside))

pub shown_whole : (bytes : List ℕ) (at : ℕ) → shown bytes ≡ take at bytes ++ shown (drop at bytes)
    → at ≡ length bytes → shown bytes ≡ bytes
unfolding shown
shown_whole bytes at all end =
    let whole : shown bytes ≡ take (length bytes) bytes ++ shown (drop (length bytes) bytes) =
    subst (λ (n : ℕ). shown bytes ≡ take n bytes ++ shown (drop n bytes)) end all in
    whole ∙ ap (λ (l : List ℕ). take (length bytes) bytes ++ shown l) (drop-length bytes)
    ∙ append-nil (take (length bytes) bytes) ∙ take-length bytes
