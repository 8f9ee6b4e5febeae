-- Sets of labels as bits.
use Rattle.std.proofs.Common.{◌≡◌, ◌≢◌, ℕ, ◌+◌, ◌-◌, ◌*◌, ◌/◌, ◌%◌, ◌^◌, ◌<◌, ◌≤◌, ◌↔◌, min, max, nat_eq, bit_and}
use Rattle.std.proofs.Common.{bit_or, ◌⊎◌, true, List, length, get_or, set, replicate, Some, refl, sym, ap, ◌∙◌, subst}
use Rattle.std.proofs.Common.{inl, inr, arith}
use Rattle.std.specs.Int.{bit_at, bit_not, w64, trailing_zeros}
use Rattle.std.specs.Int.Count.{ones}
use Rattle.std.proofs.lemmas.Bool.{cases_eq, cases_lt, eqb-true, eq-eqb}
use Rattle.std.proofs.lemmas.List.{get_or_past, get_or-replicate, get_or-set_same, get_or-set_other, length-set}
use Rattle.std.proofs.lemmas.List.{length-replicate}
use Rattle.std.proofs.lemmas.Nat.{one_shl}
use Rattle.std.proofs.lemmas.Nat.Bits.{bit_at_set_same, bit_at_set_other, bit_at-zero, bit_at_and, bit_at_or, bit_at-lt}
use Rattle.std.proofs.lemmas.Nat.Bits.{bit_at_not, bit_at_ones, bit_at_ones_above, bit_at_mask_inside}
use Rattle.std.proofs.lemmas.Nat.Bits.{bit_at_mask_below, bit_at-trailing_zeros, ones_shl}
use Rattle.board_text.specs.Domination.{has_bit}
use Rattle.board_text.specs.declared.board.TheConstants.{MAX_LABELS}
use Rattle.positions.specs.Counts.{HasSize, IsSmallest}
use Rattle.positions.proofs.CountsBelow.{count_below, count_below-same, count_below-add, count_below-le, count_ones-is}
use Rattle.positions.proofs.CountsBelow.{size_of}

-- the words with the bit of a label set
abbrev pub with_bit : List ℕ → ℕ → List ℕ
with_bit words label = set words (label / 64) (bit_or (get_or words (label / 64) 0) (1 * 2 ^ (label % 64) % 2 ^ 64))

pub has_bit-set_same : (words : List ℕ) (label : ℕ) → label / 64 < length words
    → has_bit (with_bit words label) label ≡ true
has_bit-set_same words label inside =
    let bit : label % 64 < 64 = omega arith in
    let more : ℕ = bit_or (get_or words (label / 64) 0) (1 * 2 ^ (label % 64) % 2 ^ 64) in
    ap (λ (w : ℕ). nat_eq (bit_at w (label % 64)) 1) (get_or-set_same words (label / 64) more 0 inside)
    ∙ eq-eqb (bit_at more (label % 64)) 1 (bit_at_set_same w64 (get_or words (label / 64) 0) (label % 64) bit)

pub has_bit-set_other : (words : List ℕ) (label x : ℕ) → label / 64 < length words → x ≢ label
    → has_bit (with_bit words label) x ≡ has_bit words x
has_bit-set_other words label x inside other =
    let bit : label % 64 < 64 = omega arith in
    let word : ℕ = get_or words (label / 64) 0 in
    let more : ℕ = bit_or word (1 * 2 ^ (label % 64) % 2 ^ 64) in
    elim (cases_eq (x / 64) (label / 64)) [
      | inr elsewhere ↦ ap (λ (w : ℕ). nat_eq (bit_at w (x % 64)) 1)
          (get_or-set_other words (label / 64) (x / 64) more 0 elsewhere)
      | inl same ↦
          let differ : x % 64 ≢ label % 64 = λ e. other (omega arith) in
          ap (λ (k : ℕ). nat_eq (bit_at (get_or (set words (label / 64) more) k 0) (x % 64)) 1) same
          ∙ (ap (λ (w : ℕ). nat_eq (bit_at w (x % 64)) 1) (get_or-set_same words (label / 64) more 0 inside)
          ∙ (ap (λ (n : ℕ). nat_eq n 1) (bit_at_set_other w64 word (label % 64) bit (x % 64) differ)
          ∙ ap (λ (k : ℕ). nat_eq (bit_at (get_or words k 0) (x % 64)) 1) (sym same)))
    ]

-- a bit behind the words is not set
past-bit : (words : List ℕ) (x : ℕ) → length words ≤ x / 64 → has_bit words x ≡ true → ⊥
past-bit words x past set =
    let bit : bit_at (get_or words (x / 64) 0) (x % 64) ≡ 1 =
    eqb-true (bit_at (get_or words (x / 64) 0) (x % 64)) 1 set in
    let cleared : bit_at (get_or words (x / 64) 0) (x % 64) ≡ 0 =
    ap (λ w. bit_at w (x % 64)) (get_or_past words (x / 64) 0 past) ∙ bit_at-zero (x % 64) in
    omega arith

get_or-zeros : (count k : ℕ) → get_or {A = ℕ} (replicate count 0) k 0 ≡ 0
get_or-zeros count k = elim (cases_lt k count) [
  | inl low ↦ get_or-replicate count k 0 0 low
  | inr past ↦ get_or_past (replicate count 0) k 0 (omega (arith, past, length-replicate {A = ℕ} count 0))
]

-- in so many words the bits of the labels below a number are set
pub record HasBelow (count : ℕ) (words : List ℕ) (bound : ℕ) : Type 0 where
  pub size : length words ≡ count
  pub each : (x : ℕ) → x < MAX_LABELS → (has_bit words x ≡ true) ↔ (x < bound)

pub below_none : (count : ℕ) → HasBelow count (replicate count 0) 0
below_none count = record {
  size = length-replicate count 0;
  each = λ x low. (
    λ set. (
        let bit : bit_at (get_or (replicate count 0) (x / 64) 0) (x % 64) ≡ 1 =
        eqb-true (bit_at (get_or (replicate count 0) (x / 64) 0) (x % 64)) 1 set in
        let cleared : bit_at (get_or (replicate count 0) (x / 64) 0) (x % 64) ≡ 0 =
        ap (λ w. bit_at w (x % 64)) (get_or-zeros count (x / 64)) ∙ bit_at-zero (x % 64) in
        absurd (omega arith)
        ),
    λ less. absurd (omega arith),
  );
}

-- the first bits of the next word are set
pub below_word : (count : ℕ) (words : List ℕ) (number k : ℕ) → number < count → k ≤ 64
    → HasBelow count words (64 * number) → HasBelow count (set words number (2 ^ k - 1)) (64 * number + k)
below_word count words number k inside few has =
    let word : ℕ = 2 ^ k - 1 in
    let new : List ℕ = set words number word in
    let here : get_or new number 0 ≡ word = get_or-set_same words number word 0 (omega (arith, has.size, inside)) in
    record {
      size = length-set words number word ∙ has.size;
      each = λ x low. elim (cases_eq (x / 64) number) [
        | inl same ↦
            let is : get_or new (x / 64) 0 ≡ word = ap (λ n. get_or new n 0) same ∙ here in (
              λ set. elim (cases_lt (x % 64) k) [
                | inl below ↦ omega (arith, same, below)
                | inr above ↦
                    let one : bit_at (get_or new (x / 64) 0) (x % 64) ≡ 1 =
                    eqb-true (bit_at (get_or new (x / 64) 0) (x % 64)) 1 set in
                    let zero : bit_at (get_or new (x / 64) 0) (x % 64) ≡ 0 =
                    ap (λ w. bit_at w (x % 64)) is ∙ bit_at_ones_above k (x % 64) above in
                    absurd (omega arith)
              ],
              λ less. ap (λ w. nat_eq (bit_at w (x % 64)) 1) is
                  ∙ eq-eqb (bit_at word (x % 64)) 1 (bit_at_ones k (x % 64) (omega (arith, same, less))),
            )
        | inr other ↦
            let kept : has_bit new x ≡ has_bit words x =
            ap (λ w. nat_eq (bit_at w (x % 64)) 1) (get_or-set_other words number (x / 64) word 0 other) in (
              λ set. let less : x < 64 * number = (has.each x low).0 (sym kept ∙ set) in omega (arith, less),
              λ less. kept ∙ (has.each x low).1 (omega (arith, less, few, other)),
            )
      ];
    }

-- the bits of the last labels in a word that isn't full
pub below_rest : (count : ℕ) (words : List ℕ) (labels : ℕ) → labels ≤ 64 * count → 0 < labels % 64
    → HasBelow count words (64 * (labels / 64))
    → HasBelow count (set words (labels / 64) (1 * 2 ^ (labels % 64) % 2 ^ 64 - 1)) labels
below_rest count words labels fits some has =
    let whole : 64 * (labels / 64) + labels % 64 ≡ labels = omega arith in
    let mask : 2 ^ (labels % 64) ≡ 1 * 2 ^ (labels % 64) % 2 ^ 64 = sym (one_shl (labels % 64) 64 (omega arith)) in
    subst (λ bits. HasBelow count (set words (labels / 64) (bits - 1)) labels) mask
    (subst (HasBelow count (set words (labels / 64) (2 ^ (labels % 64) - 1))) whole
    (below_word count words (labels / 64) (labels % 64) (omega (arith, fits, some)) (omega arith) has))

-- ---- words that are made one after the other

-- the words before a number are made, and the others are those of `first`
pub record AreMadeTo (made : ℕ → ℕ) (first new : List ℕ) (end : ℕ) : Type 0 where
  pub size : length new ≡ length first
  pub before : (k : ℕ) → k < end → get_or new k 0 ≡ made k
  pub behind : (k : ℕ) → end ≤ k → get_or new k 0 ≡ get_or first k 0

pub made-none : (made : ℕ → ℕ) (first : List ℕ) → AreMadeTo made first first 0
made-none made first = record { size = refl; before = λ k low. absurd (omega arith); behind = λ k high. refl }

pub made-more : (made : ℕ → ℕ) (first new : List ℕ) (end word : ℕ) → end < length first → word ≡ made end
    → AreMadeTo made first new end → AreMadeTo made first (set new end word) (end + 1)
made-more made first new end word inside is are = record {
  size = length-set new end word ∙ are.size;
  before = λ k low. elim (cases_eq k end) [
    | inl same ↦ ap (λ j. get_or (set new end word) j 0) same
        ∙ (get_or-set_same new end word 0 (omega (arith, inside, are.size)) ∙ (is ∙ ap made (sym same)))
    | inr other ↦ get_or-set_other new end k word 0 other ∙ are.before k (omega (arith, low, other))
  ];
  behind = λ k high. get_or-set_other new end k word 0 (λ same. omega (arith, high, same))
      ∙ are.behind k (omega (arith, high));
}

-- ---- bits that two rows share

pub bit_of_both : (a b i : ℕ)
    → (nat_eq (bit_at (bit_and a b) i) 1 ≡ true) ↔ ((nat_eq (bit_at a i) 1 ≡ true) × (nat_eq (bit_at b i) 1 ≡ true))
bit_of_both a b i =
    let same : bit_at (bit_and a b) i ≡ min (bit_at a i) (bit_at b i) = bit_at_and a b i in
    let one : bit_at a i < 2 = bit_at-lt a i in
    let other : bit_at b i < 2 = bit_at-lt b i in (
      λ both.
          let set : bit_at (bit_and a b) i ≡ 1 = eqb-true (bit_at (bit_and a b) i) 1 both in
          (eq-eqb (bit_at a i) 1 (omega arith), eq-eqb (bit_at b i) 1 (omega arith)),
      λ each.
          let first : bit_at a i ≡ 1 = eqb-true (bit_at a i) 1 each.0 in
          let second : bit_at b i ≡ 1 = eqb-true (bit_at b i) 1 each.1 in
          eq-eqb (bit_at (bit_and a b) i) 1 (omega arith),
    )

-- a word of the bits that two rows share
abbrev pub both_of : List ℕ → List ℕ → ℕ → ℕ
both_of first second k = bit_and (get_or first k 0) (get_or second k 0)

pub has_bit-both : (first second new : List ℕ) (end : ℕ) → end ≡ length first
    → AreMadeTo (both_of first second) first new end
    → (x : ℕ) → (has_bit new x ≡ true) ↔ ((has_bit first x ≡ true) × (has_bit second x ≡ true))
has_bit-both first second new end all are x = elim (cases_lt (x / 64) end) [
  | inl inside ↦ subst (λ w. (nat_eq (bit_at w (x % 64)) 1 ≡ true)
      ↔ ((has_bit first x ≡ true) × (has_bit second x ≡ true)))
      (sym (are.before (x / 64) inside))
      (bit_of_both (get_or first (x / 64) 0) (get_or second (x / 64) 0) (x % 64))
  | inr past ↦ (
    λ set. absurd (past-bit new x (omega (arith, past, all, are.size)) set),
    λ each. absurd (past-bit first x (omega (arith, past, all)) each.0),
  )
]

-- ---- the bits of a row that another has not

pub bit_of_one : (a b i : ℕ) → b < 2 ^ 64 → i < 64
    → (nat_eq (bit_at (bit_and a (bit_not w64 b)) i) 1 ≡ true)
    ↔ ((nat_eq (bit_at a i) 1 ≡ true) × (nat_eq (bit_at b i) 1 ≡ true → ⊥))
bit_of_one a b i fits low =
    let same : bit_at (bit_and a (bit_not w64 b)) i ≡ min (bit_at a i) (bit_at (bit_not w64 b) i) =
    bit_at_and a (bit_not w64 b) i in
    let turned : bit_at (bit_not w64 b) i ≡ 1 - bit_at b i = bit_at_not w64 b i fits low in
    let one : bit_at a i < 2 = bit_at-lt a i in
    let other : bit_at b i < 2 = bit_at-lt b i in (
      λ both.
          let set : bit_at (bit_and a (bit_not w64 b)) i ≡ 1 =
          eqb-true (bit_at (bit_and a (bit_not w64 b)) i) 1 both in (
            eq-eqb (bit_at a i) 1 (omega arith),
            λ held. let second : bit_at b i ≡ 1 = eqb-true (bit_at b i) 1 held in omega arith,
          ),
      λ each.
          let first : bit_at a i ≡ 1 = eqb-true (bit_at a i) 1 each.0 in
          elim (cases_eq (bit_at b i) 1) [
            | inl held ↦ absurd (each.1 (eq-eqb (bit_at b i) 1 held))
            | inr not_held ↦
                let none : bit_at b i ≡ 0 = omega (arith, not_held) in
                eq-eqb (bit_at (bit_and a (bit_not w64 b)) i) 1 (omega arith)
          ],
    )

-- a word of the bits that only the first of two rows has
abbrev pub one_of : List ℕ → List ℕ → ℕ → ℕ
one_of first second k = bit_and (get_or first k 0) (bit_not w64 (get_or second k 0))

pub has_bit-one : (first second new : List ℕ) (end : ℕ) → end ≡ length first
    → ((k : ℕ) → k < end → get_or second k 0 < 2 ^ 64)
    → AreMadeTo (one_of first second) first new end
    → (x : ℕ) → (has_bit new x ≡ true) ↔ ((has_bit first x ≡ true) × (has_bit second x ≡ true → ⊥))
has_bit-one first second new end all fits are x = elim (cases_lt (x / 64) end) [
  | inl inside ↦ subst (λ w. (nat_eq (bit_at w (x % 64)) 1 ≡ true)
      ↔ ((has_bit first x ≡ true) × (has_bit second x ≡ true → ⊥)))
      (sym (are.before (x / 64) inside))
      (bit_of_one (get_or first (x / 64) 0) (get_or second (x / 64) 0) (x % 64) (fits (x / 64) inside) (omega arith))
  | inr past ↦ (
    λ set. absurd (past-bit new x (omega (arith, past, all, are.size)) set),
    λ each. absurd (past-bit first x (omega (arith, past, all)) each.0),
  )
]

-- ---- the bits of a row or of another

pub bit_of_either : (a b i : ℕ)
    → (nat_eq (bit_at (bit_or a b) i) 1 ≡ true) ↔ ((nat_eq (bit_at a i) 1 ≡ true) ⊎ (nat_eq (bit_at b i) 1 ≡ true))
bit_of_either a b i =
    let same : bit_at (bit_or a b) i ≡ max (bit_at a i) (bit_at b i) = bit_at_or a b i in
    let one : bit_at a i < 2 = bit_at-lt a i in
    let other : bit_at b i < 2 = bit_at-lt b i in (
      λ either.
          let set : bit_at (bit_or a b) i ≡ 1 = eqb-true (bit_at (bit_or a b) i) 1 either in
          elim (cases_eq (bit_at a i) 1) [
            | inl first ↦ inl (eq-eqb (bit_at a i) 1 first)
            | inr none ↦ inr (eq-eqb (bit_at b i) 1 (omega (arith, none)))
          ],
      λ some. elim some [
        | inl held ↦
            let first : bit_at a i ≡ 1 = eqb-true (bit_at a i) 1 held in
            eq-eqb (bit_at (bit_or a b) i) 1 (omega arith)
        | inr held ↦
            let second : bit_at b i ≡ 1 = eqb-true (bit_at b i) 1 held in
            eq-eqb (bit_at (bit_or a b) i) 1 (omega arith)
      ],
    )

-- a word of the bits of two rows
abbrev pub either_of : List ℕ → List ℕ → ℕ → ℕ
either_of first second k = bit_or (get_or first k 0) (get_or second k 0)

pub has_bit-either : (first second new : List ℕ) (end : ℕ) → end ≡ length first → length second ≡ length first
    → AreMadeTo (either_of first second) first new end
    → (x : ℕ) → (has_bit new x ≡ true) ↔ ((has_bit first x ≡ true) ⊎ (has_bit second x ≡ true))
has_bit-either first second new end all same are x = elim (cases_lt (x / 64) end) [
  | inl inside ↦ subst (λ w. (nat_eq (bit_at w (x % 64)) 1 ≡ true)
      ↔ ((has_bit first x ≡ true) ⊎ (has_bit second x ≡ true)))
      (sym (are.before (x / 64) inside))
      (bit_of_either (get_or first (x / 64) 0) (get_or second (x / 64) 0) (x % 64))
  | inr past ↦ (
    λ set. absurd (past-bit new x (omega (arith, past, all, are.size)) set),
    λ some. elim some [
      | inl held ↦ absurd (past-bit first x (omega (arith, past, all)) held)
      | inr held ↦ absurd (past-bit second x (omega (arith, past, all, same)) held)
    ],
  )
]

-- ---- one bit more

pub has_bit-with : (words : List ℕ) (label : ℕ) → label / 64 < length words → (x : ℕ) → x < MAX_LABELS
    → (has_bit (with_bit words label) x ≡ true) ↔ ((x ≡ label) ⊎ (has_bit words x ≡ true))
has_bit-with words label inside x small = elim (cases_eq x label) [
  | inl same ↦ (
    λ set. inl same,
    λ either. ap (has_bit (with_bit words label)) same ∙ has_bit-set_same words label inside,
  )
  | inr other ↦ (
    λ set. inr (sym (has_bit-set_other words label x inside other) ∙ set),
    λ either. elim either [
      | inl same ↦ absurd (other same)
      | inr held ↦ has_bit-set_other words label x inside other ∙ held
    ],
  )
]

-- ---- no bits

-- the first words are 0
abbrev pub AreNone : List ℕ → ℕ → Type 0
AreNone words number = (k : ℕ) → k < number → get_or words k 0 ≡ 0

pub none_set : (words : List ℕ) (number : ℕ) → length words ≤ number → AreNone words number
    → (x : ℕ) → has_bit words x ≡ true → ⊥
none_set words number all none x set = elim (cases_lt (x / 64) number) [
  | inr past ↦ past-bit words x (omega (arith, past, all)) set
  | inl inside ↦
      let bit : bit_at (get_or words (x / 64) 0) (x % 64) ≡ 1 =
      eqb-true (bit_at (get_or words (x / 64) 0) (x % 64)) 1 set in
      let cleared : bit_at (get_or words (x / 64) 0) (x % 64) ≡ 0 =
      ap (λ w. bit_at w (x % 64)) (none (x / 64) inside) ∙ bit_at-zero (x % 64) in
      omega arith
]

-- ---- the number of bits that are set

pub bit_of_word : (words : List ℕ) (k j : ℕ) → j < 64
    → has_bit words (64 * k + j) ≡ nat_eq (bit_at (get_or words k 0) j) 1
bit_of_word words k j small =
    let place : (64 * k + j) / 64 ≡ k = omega arith in
    let bit : (64 * k + j) % 64 ≡ j = omega arith in
    ap (λ p. nat_eq (bit_at (get_or words p 0) ((64 * k + j) % 64)) 1) place
    ∙ ap (λ b. nat_eq (bit_at (get_or words k 0) b) 1) bit

pub some_set : (words : List ℕ) (number : ℕ) → number < 4 → get_or words number 0 ≢ 0
    → get_or words number 0 < 2 ^ 64
    → ((x : ℕ) → x < MAX_LABELS → has_bit words x ≡ true → ⊥) → ⊥
some_set words number inside some fits none =
    let word : ℕ = get_or words number 0 in
    let lowest : ℕ = trailing_zeros w64 word in
    let at = bit_at-trailing_zeros w64 word (omega (arith, some)) fits in
    let low : lowest < 64 = at.0 in
    none (64 * number + lowest) (omega arith) (bit_of_word words number lowest low ∙ eq-eqb (bit_at word lowest) 1 at.1)

pub bits_more : (words : List ℕ) (k count : ℕ) → get_or words k 0 < 2 ^ 64
    → count ≡ count_below (has_bit words) (64 * k)
    → count + ones (get_or words k 0) ≡ count_below (has_bit words) (64 * (k + 1))
bits_more words k count small is =
    let next : 64 * (k + 1) ≡ 64 * k + 64 = omega arith in
    let here : count_below (λ j. has_bit words (64 * k + j)) 64 ≡ ones (get_or words k 0) =
    count_below-same (λ j. has_bit words (64 * k + j)) (λ j. nat_eq (bit_at (get_or words k 0) j) 1) 64
    (λ j low. bit_of_word words k j low)
    ∙ count_ones-is (get_or words k 0) small in
    ap (λ n. n + ones (get_or words k 0)) is
    ∙ ap (λ n. count_below (has_bit words) (64 * k) + n) (sym here)
    ∙ sym (ap (count_below (has_bit words)) next ∙ count_below-add (has_bit words) (64 * k) 64)

pub bits_few : (words : List ℕ) (bound count : ℕ) → count ≡ count_below (has_bit words) bound → count ≤ bound
bits_few words bound count is = let few = count_below-le (has_bit words) bound in omega arith

pub size_of_bits : (words : List ℕ) (bound count : ℕ) → bound ≡ 64 * length words → length words ≤ 4
    → count ≡ count_below (has_bit words) bound → HasSize (λ x. (x < MAX_LABELS) × (has_bit words x ≡ true)) count
size_of_bits words bound count all few is =
    let same : count_below (has_bit words) bound ≡ count = sym is in
    subst (HasSize (λ x. (x < MAX_LABELS) × (has_bit words x ≡ true))) same
    (size_of (λ x. (x < MAX_LABELS) × (has_bit words x ≡ true)) (has_bit words) bound (λ x. (
      λ h. (elim (cases_lt x bound) [
        | inl low ↦ (low, h.1)
        | inr high ↦ absurd (past-bit words x (omega (arith, high, all)) h.1)
      ]),
      λ h. (omega (arith, h.0, all, few), h.1),
    )))

-- ---- the first bit from a bound on

-- no bit from the bound on is set before a word
abbrev pub NoneBefore : List ℕ → ℕ → ℕ → Type 0
NoneBefore words bound place = (x : ℕ) → bound ≤ x → x < 64 * place → has_bit words x ≡ true → ⊥

-- a word without its bits below the bound
abbrev pub Keeps : ℕ → ℕ → ℕ → Type 0
Keeps bound place kept = (j : ℕ) → j < 64 → (bit_at kept j ≡ 1) ↔ (bound ≤ 64 * place + j)

pub keeps_all : (bound place : ℕ) → bound ≤ 64 * place → Keeps bound place (2 ^ 64 - 1)
keeps_all bound place low j small = (λ one. omega arith, λ above. bit_at_ones 64 j small)

pub keeps_from : (bound place : ℕ) → 64 * place < bound → bound < 64 * place + 64
    → Keeps bound place ((2 ^ 64 - 1) * 2 ^ (bound % 64) % 2 ^ 64)
keeps_from bound place above below =
    let shift : ℕ = bound % 64 in
    let whole : 64 * place + shift ≡ bound = omega arith in
    let mask : (2 ^ 64 - 1) * 2 ^ shift % 2 ^ 64 ≡ 2 ^ 64 - 2 ^ shift = ones_shl 64 shift (omega arith) in
    subst (λ k. Keeps bound place k) (sym mask) (λ j small. elim (cases_lt j shift) [
      | inl under ↦ (
        λ one. let zero : bit_at (2 ^ 64 - 2 ^ shift) j ≡ 0 = bit_at_mask_below shift 64 j under in
            absurd (omega arith),
        λ from. absurd (omega arith),
      )
      | inr over ↦ (λ one. omega arith, λ from. bit_at_mask_inside shift 64 j over small)
    ])

pub none_more : (words : List ℕ) (bound place kept : ℕ) → Keeps bound place kept
    → bit_and (get_or words place 0) kept ≡ 0 → NoneBefore words bound place → NoneBefore words bound (place + 1)
none_more words bound place kept keeps empty none x above low set = elim (cases_lt x (64 * place)) [
  | inl before ↦ none x above before set
  | inr here ↦
      let same : x / 64 ≡ place = omega arith in
      let whole : 64 * place + x % 64 ≡ x = omega arith in
      let bit : nat_eq (bit_at (get_or words place 0) (x % 64)) 1 ≡ true =
      ap (λ p. nat_eq (bit_at (get_or words p 0) (x % 64)) 1) (sym same) ∙ set in
      let kept_bit : bit_at kept (x % 64) ≡ 1 = (keeps (x % 64) (omega arith)).1 (omega arith) in
      let both = (bit_of_both (get_or words place 0) kept (x % 64)).1 (bit, eq-eqb (bit_at kept (x % 64)) 1 kept_bit) in
      let one : bit_at (bit_and (get_or words place 0) kept) (x % 64) ≡ 1 =
      eqb-true (bit_at (bit_and (get_or words place 0) kept) (x % 64)) 1 both in
      let zero : bit_at (bit_and (get_or words place 0) kept) (x % 64) ≡ 0 =
      ap (λ w. bit_at w (x % 64)) empty ∙ bit_at-zero (x % 64) in
      omega arith
]

-- a word that ends at the bound, or before it
pub none_passed : (words : List ℕ) (bound place : ℕ) → 64 * place + 64 ≤ bound → NoneBefore words bound (place + 1)
none_passed words bound place passed x above low set = omega arith

abbrev pub HasBitFrom : List ℕ → ℕ → ℕ → Type 0
HasBitFrom words bound x = (bound ≤ x) × (x < MAX_LABELS) × (has_bit words x ≡ true)

pub search_some : (words : List ℕ) (bound place kept first : ℕ) → place < 4 → 0 < bit_and (get_or words place 0) kept
    → bit_and (get_or words place 0) kept < 2 ^ 64
    → Keeps bound place kept → NoneBefore words bound place
    → first ≡ 64 * place + trailing_zeros w64 (bit_and (get_or words place 0) kept)
    → IsSmallest (HasBitFrom words bound) (Some first)
search_some words bound place kept first inside some fits keeps none is =
    let word : ℕ = bit_and (get_or words place 0) kept in
    let lowest : ℕ = trailing_zeros w64 word in
    let at = bit_at-trailing_zeros w64 word some fits in
    let low : lowest < 64 = at.0 in
    let both = (bit_of_both (get_or words place 0) kept lowest).0 (eq-eqb (bit_at word lowest) 1 at.1) in
    let above : bound ≤ 64 * place + lowest = (keeps lowest low).0 (eqb-true (bit_at kept lowest) 1 both.1) in
    let set : has_bit words (64 * place + lowest) ≡ true = bit_of_word words place lowest low ∙ both.0 in (
      (omega arith, omega arith, subst (λ x. has_bit words x ≡ true) (sym is) set),
      λ other has. elim (cases_lt other first) [
        | inr behind ↦ behind
        | inl before ↦ elim (cases_lt other (64 * place)) [
          | inl earlier ↦ absurd (none other has.0 earlier has.2)
          | inr here ↦
              let from : bound ≤ other = has.0 in
              let bit : other % 64 < lowest = omega arith in
              let same : other / 64 ≡ place = omega arith in
              let held : nat_eq (bit_at (get_or words place 0) (other % 64)) 1 ≡ true =
              ap (λ p. nat_eq (bit_at (get_or words p 0) (other % 64)) 1) (sym same) ∙ has.2 in
              let kept_bit : bit_at kept (other % 64) ≡ 1 = (keeps (other % 64) (omega arith)).1 (omega arith) in
              let one : bit_at word (other % 64) ≡ 1 =
              eqb-true (bit_at word (other % 64)) 1
              ((bit_of_both (get_or words place 0) kept (other % 64)).1
              (held, eq-eqb (bit_at kept (other % 64)) 1 kept_bit)) in
              let zero : bit_at word (other % 64) ≡ 0 = at.2 (other % 64) bit in
              absurd (omega arith)
        ]
      ],
    )
