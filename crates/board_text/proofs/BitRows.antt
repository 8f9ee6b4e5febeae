-- The pairs that bit rows have.
use Rattle.std.proofs.Common.{◌≡◌, ◌≢◌, ℕ, ◌+◌, ◌*◌, ◌/◌, ◌%◌, ◌^◌, ◌<◌, ◌≤◌, ◌↔◌, nat_eq, bit_or, true, false, List}
use Rattle.std.proofs.Common.{[], ◌∷◌, ◌++◌, length, get_or, set, take, drop, replicate, Contains, refl, sym, ap, ◌∙◌}
use Rattle.std.proofs.Common.{arith, inl, inr}
use Rattle.std.specs.Int.{bit_at, w64}
use Rattle.std.proofs.lemmas.Bool.{cases_lt, cases_eq, both_ways, eq-eqb}
use Rattle.std.proofs.lemmas.List.{length-set, length-replicate, get_or-replicate, get_or-set_same, get_or-set_other}
use Rattle.std.proofs.lemmas.List.{get_or_past, get_or-take, get_or-drop, take_at}
use Rattle.std.proofs.lemmas.List.Elements.{Contains-push}
use Rattle.std.proofs.lemmas.Nat.{div-mul-add, mod-mul-add, mod_below, mul-add-lt, div-add-mod'}
use Rattle.std.proofs.Math.Nat.{mul-le-mul_right}
use Rattle.std.proofs.lemmas.Nat.Bits.{bit_at_set_same, bit_at_set_other, bit_at-zero}
use Rattle.board_text.specs.Ranges.{InRange}
use Rattle.board_text.specs.PlainBoard.{AreLabels, IsNext}
use Rattle.board_text.specs.Domination.{has_bit}
use Rattle.board_text.specs.Inside.Domination.{beats_in, mark_of, pairs_of, pair_at, ClearFrom, AreBitRows, SetsPair}
use Rattle.board_text.specs.declared.board.TheConstants.{MAX_LABELS}
use Rattle.board_text.proofs.DominationPairs.{NoMarks, pairs_more, pairs_none, has_mark, is_marked, place_grows}
use Rattle.board_text.proofs.DominationPairs.{precedes_from_place}

-- the mark of a pair's place is the pair's bit
pub mark_at : (labels : ℕ) (rows : List ℕ) (x y : ℕ) → y < labels
    → mark_of labels rows (x * labels + y) ≡ beats_in rows x y
mark_at labels rows x y small = rw (div-mul-add x labels y small, mod-mul-add x labels y small) refl

pub contains_bit : (labels : ℕ) (rows : List ℕ) (x y : ℕ) → AreLabels labels (x, y) → beats_in rows x y ≡ true
    → Contains (pairs_of labels rows) (x, y)
contains_bit labels rows x y are bit =
    has_mark labels (mark_of labels rows) (labels * labels) x y are.1 (mul-add-lt x labels y labels are.0 are.1)
    (mark_at labels rows x y are.1 ∙ bit)

-- a pair of the rows is of labels, and its bit is set
pub record HasBit (labels : ℕ) (rows : List ℕ) (x y : ℕ) : Type 0 where
  pub below : x * labels + y < labels * labels
  pub bit : beats_in rows x y ≡ true
  pub small : y < labels

pub bit_contained : (labels : ℕ) (rows : List ℕ) (x y : ℕ) → 0 < labels → Contains (pairs_of labels rows) (x, y)
    → HasBit labels rows x y
bit_contained labels rows x y positive h =
    let m = is_marked labels (mark_of labels rows) (labels * labels) x y positive h in
    record { below = m.below; bit = sym (mark_at labels rows x y m.small) ∙ m.mark; small = m.small }

-- a place of the table is that of two labels
pub record PairOf (labels place : ℕ) : Type 0 where
  pub first : place / labels < labels
  pub second : place % labels < labels
  pub same : place / labels * labels + place % labels ≡ place

pub pair_of_place : (labels place : ℕ) → 0 < labels → place < labels * labels → PairOf labels place
pair_of_place labels place positive lt =
    let whole : place / labels * labels + place % labels ≡ place = div-add-mod' place labels in
    let low : place / labels < labels = elim (cases_lt (place / labels) labels) [
      | inl less ↦ less
      | inr more ↦ absurd (omega (arith, lt, whole, mul-le-mul_right labels more))
    ] in
    record { first = low; second = mod_below place labels positive; same = whole }

-- a slice that was lent from the rows and written
pub written : (n : ℕ) (old new : List ℕ) → length new ≡ n → take n (new ++ drop (length new) old) ≡ new
written n old new len = take_at new (drop (length new) old) n len

-- if the rows are clear from a place on, there are no marks from there on
pub clear_marks : (labels : ℕ) (rows : List ℕ) (next : ℕ) → InRange 1 MAX_LABELS labels → ClearFrom labels rows next
    → NoMarks (mark_of labels rows) next (labels * labels)
clear_marks labels rows next in_range clear place low high =
    let p = pair_of_place labels place in_range.0 high in
    let first : place / labels < labels = p.first in
    clear (place / labels) (place % labels) (omega (arith, first, in_range.1)) p.second (omega (arith, p.same, low))

pub next_from_place : (labels : ℕ) (rows : List ℕ) (next x y : ℕ) → AreBitRows labels rows next
    → AreLabels labels (x, y) → next ≤ x * labels + y → IsNext (pairs_of labels rows) (x, y)
next_from_place labels rows next x y is are le before last e =
    let h : Contains (pairs_of labels rows) (last.0, last.1) = rw e (Contains-push before last) in
    let m = is_marked labels (mark_of labels rows) (labels * labels) last.0 last.1 is.in_range.0 h in
    let lt : last.0 * labels + last.1 < next = elim (cases_lt (last.0 * labels + last.1) next) [
      | inl less ↦ less
      | inr more ↦ absurd (both_ways (mark_of labels rows (last.0 * labels + last.1))
          (clear_marks labels rows next is.in_range is.clear (last.0 * labels + last.1) more m.below) m.mark)
    ] in
    precedes_from_place labels last (x, y) are.1 (omega (arith, lt, le))

pub place_from_next : (labels : ℕ) (rows : List ℕ) (next x y : ℕ) → AreBitRows labels rows next
    → IsNext (pairs_of labels rows) (x, y) → next ≤ x * labels + y
place_from_next labels rows next x y is above =
    elim is.ends [
      | inl none ↦ omega (arith, none.1)
      | inr some ↦
          let grows : some.1.0 * labels + some.1.1 < x * labels + y =
          place_grows labels some.1 (x, y) some.3.1 (above some.0 some.1 some.2) in
          omega (arith, some.4, grows)
    ]

-- ---- one more pair

same_mark : (labels : ℕ) (old new : List ℕ) (x y place : ℕ) → InRange 1 MAX_LABELS labels → AreLabels labels (x, y)
    → SetsPair labels old new x y → place < labels * labels → place ≢ x * labels + y
    → mark_of labels new place ≡ mark_of labels old place
same_mark labels old new x y place in_range are sets lt other =
    let p = pair_of_place labels place in_range.0 lt in
    let first : place / labels < labels = p.first in
    sets.others (place / labels) (place % labels) (omega (arith, first, in_range.1))
    (λ both. other (sym p.same ∙ rw (both.0, both.1) refl))

pub pairs_pushed : (labels : ℕ) (old new : List ℕ) (next x y : ℕ) → AreBitRows labels old next → AreLabels labels (x, y)
    → next ≤ x * labels + y → SetsPair labels old new x y
    → pairs_of labels new ≡ pairs_of labels old ++ (x, y) ∷ []
pairs_pushed labels old new next x y is are le sets =
    let lt : x * labels + y < labels * labels = mul-add-lt x labels y labels are.0 are.1 in
    let pair : pair_at labels (x * labels + y) ≡ (x, y) =
    rw (div-mul-add x labels y are.1, mod-mul-add x labels y are.1) refl in
    pairs_more labels (mark_of labels old) (mark_of labels new) (x * labels + y) (labels * labels) lt
    (mark_at labels new x y are.1 ∙ sets.here)
    (λ place low other. same_mark labels old new x y place is.in_range are sets low other)
    (λ place low high. clear_marks labels old next is.in_range is.clear place (omega (arith, le, low)) high)
    ∙ ap (λ (p : ℕ × ℕ). pairs_of labels old ++ p ∷ []) pair

pub rows_pushed : (labels : ℕ) (old new : List ℕ) (next x y : ℕ) → AreBitRows labels old next → AreLabels labels (x, y)
    → next ≤ x * labels + y → SetsPair labels old new x y
    → AreBitRows labels new (x * labels + y + 1)
rows_pushed labels old new next x y is are le sets = record {
  in_range = is.in_range;
  sized = sets.size ∙ is.sized;
  clear = λ i j low small above. sets.others i j low
      (λ both. let e : i * labels + j ≡ x * labels + y = rw (both.0, both.1) refl in omega (arith, above, e))
      ∙ is.clear i j low small (omega (arith, above, le));
  ends = inr (pairs_of labels old, (x, y), pairs_pushed labels old new next x y is are le sets, are, refl);
}

-- ---- no pair

pub no_bit : (n x y : ℕ) → beats_in (replicate n 0) x y ≡ false
no_bit n x y =
    let word : get_or (replicate n 0) (4 * y + x / 64) 0 ≡ 0 = elim (cases_lt (4 * y + x / 64) n) [
      | inl lt ↦ get_or-replicate n (4 * y + x / 64) 0 0 lt
      | inr past ↦ get_or_past (replicate n 0) (4 * y + x / 64) 0 (omega (arith, length-replicate {A = ℕ} n 0))
    ] in
    ap (λ (w : ℕ). nat_eq (bit_at w (x % 64)) 1) word ∙ ap (λ (b : ℕ). nat_eq b 1) (bit_at-zero (x % 64))

pub rows_new : (labels : ℕ) → InRange 1 MAX_LABELS labels → AreBitRows labels (replicate (4 * labels) 0) 0
rows_new labels in_range = record {
  in_range = in_range;
  sized = length-replicate {A = ℕ} (4 * labels) 0;
  clear = λ x y low small above. no_bit (4 * labels) x y;
  ends = inl (
    pairs_none labels (mark_of labels (replicate (4 * labels) 0)) (labels * labels)
        (λ place low high. no_bit (4 * labels) (place / labels) (place % labels)),
    refl,
  );
}

-- one more bit in a word adds its pair
pub sets_pair : (labels : ℕ) (rows : List ℕ) (x y : ℕ) → labels ≤ MAX_LABELS → length rows ≡ 4 * labels
    → AreLabels labels (x, y)
    → SetsPair labels rows (set rows (4 * y + x / 64)
    (bit_or (get_or rows (4 * y + x / 64) 0) (1 * 2 ^ (x % 64) % 2 ^ 64))) x y
sets_pair labels rows x y few sized are =
    let place : ℕ = 4 * y + x / 64 in
    let word : ℕ = get_or rows place 0 in
    let bit : ℕ = x % 64 in
    let within : bit < 64 = omega arith in
    let first : x < labels = are.0 in
    let second : y < labels = are.1 in
    let inside : place < length rows = omega arith in
    let more : ℕ = bit_or word (1 * 2 ^ bit % 2 ^ 64) in
    record {
      size = length-set rows place more;
      here = ap (λ (w : ℕ). nat_eq (bit_at w bit) 1) (get_or-set_same rows place more 0 inside)
          ∙ eq-eqb (bit_at more bit) 1 (bit_at_set_same w64 word bit within);
      others = λ i j small other. elim (cases_eq (4 * j + i / 64) place) [
        | inr elsewhere ↦ ap (λ (w : ℕ). nat_eq (bit_at w (i % 64)) 1)
            (get_or-set_other rows place (4 * j + i / 64) more 0 elsewhere)
        | inl same ↦
            let differ : (i % 64 ≡ bit) → ⊥ = λ e. other (omega arith, omega arith) in
            ap (λ (k : ℕ). nat_eq (bit_at (get_or (set rows place more) k 0) (i % 64)) 1) same
            ∙ (ap (λ (w : ℕ). nat_eq (bit_at w (i % 64)) 1) (get_or-set_same rows place more 0 inside)
            ∙ (ap (λ (n : ℕ). nat_eq n 1) (bit_at_set_other w64 word bit within (i % 64) differ)
            ∙ ap (λ (k : ℕ). nat_eq (bit_at (get_or rows k 0) (i % 64)) 1) (sym same)))
      ];
    }

-- the next place is at most the number of places
next_within : (labels : ℕ) (rows : List ℕ) (next : ℕ) → AreBitRows labels rows next → next ≤ labels * labels
next_within labels rows next is =
    elim is.ends [
      | inl none ↦ omega (arith, none.1)
      | inr some ↦ let lt : some.1.0 * labels + some.1.1 < labels * labels =
          mul-add-lt some.1.0 labels some.1.1 labels some.3.0 some.3.1 in omega (arith, some.4, lt)
    ]

-- a bit of the row of a label is a bit of the rows
pub row_bit : (rows : List ℕ) (x y : ℕ) → x < MAX_LABELS → 4 * y + 4 ≤ length rows
    → has_bit (take 4 (drop (4 * y) rows)) x ≡ beats_in rows x y
row_bit rows x y small inside =
    let low : x / 64 < 4 = omega arith in
    ap (λ (w : ℕ). nat_eq (bit_at w (x % 64)) 1)
    (get_or-take 4 (drop (4 * y) rows) (x / 64) 0 low ∙ get_or-drop (4 * y) rows (x / 64) 0)

-- the row of a label has the bits of those that beat it, and no others
pub row_is : (labels : ℕ) (rows : List ℕ) (next x y : ℕ) → AreBitRows labels rows next → x < MAX_LABELS → y < labels
    → has_bit (take 4 (drop (4 * y) rows)) x ≡ true ↔ Contains (pairs_of labels rows) (x, y)
row_is labels rows next x y is small low =
    let inside : 4 * y + 4 ≤ length rows = omega (arith, is.sized, low) in
    let same = row_bit rows x y small inside in (
      λ set. elim (cases_lt x labels) [
        | inl label ↦ contains_bit labels rows x y (label, low) (sym same ∙ set)
        | inr above ↦ absurd (both_ways (beats_in rows x y)
            (is.clear x y small low (omega (arith, next_within labels rows next is, mul-le-mul_right labels above)))
            (sym same ∙ set))
      ],
      λ found. same ∙ (bit_contained labels rows x y is.in_range.0 found).bit,
    )
