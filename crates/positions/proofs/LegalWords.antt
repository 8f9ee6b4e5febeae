-- Words whose bits tell which labels dominate places.
use Rattle.std.proofs.Common.{◌≡◌, ℕ, ◌+◌, ◌-◌, ◌*◌, ◌^◌, ◌<◌, ◌≤◌, ◌↔◌, true, min, nat_eq, bit_and, List}
use Rattle.std.proofs.Common.{length, get_or, set, sym, ◌∙◌, subst, inl, inr, arith}
use Rattle.std.specs.Int.{bit_at}
use Rattle.std.proofs.lemmas.Bool.{cases_eq, cases_lt, eqb-true, eq-eqb}
use Rattle.std.proofs.lemmas.List.{length-set, get_or-set_same, get_or-set_other}
use Rattle.std.proofs.lemmas.Nat.Bits.{bit_at_and, bit_at-lt, bit_at_ones}
use Rattle.board_text.specs.PlainBoard.{PlainBoard, Dominates, DominatesPlace}
use Rattle.board_text.specs.Domination.{has_bit}
use Rattle.board_text.specs.declared.board.TheConstants.{MAX_LABELS, MAX_PEBBLES}
use Rattle.positions.specs.Game.{DominatesOthers}
use Rattle.positions.specs.Inside.LegalWords.{AreBitsOf, AreOfEarlier, DominatesFrom}
use Rattle.positions.proofs.LabelBits.{bit_of_word}

-- ---- one word

-- the bits that two words share
bits_of_both : (P Q R : ℕ → Type 0) (a b : ℕ) → ((label : ℕ) → R label ↔ (P label × Q label)) → AreBitsOf P a
    → AreBitsOf Q b → AreBitsOf R (bit_and a b)
bits_of_both P Q R a b both of_a of_b label low =
    let same : bit_at (bit_and a b) label ≡ min (bit_at a label) (bit_at b label) = bit_at_and a b label in
    let one : bit_at a label < 2 = bit_at-lt a label in
    let other : bit_at b label < 2 = bit_at-lt b label in (
      λ set. (both label).1 ((of_a label low).0 (omega arith), (of_b label low).0 (omega arith)),
      λ has.
          let each = (both label).0 has in
          let first : bit_at a label ≡ 1 = (of_a label low).1 each.0 in
          let second : bit_at b label ≡ 1 = (of_b label low).1 each.1 in
          omega arith,
    )

-- each label dominates all of no places
pub all_set : (board : PlainBoard) (places : List ℕ) (place : ℕ)
    → AreBitsOf (DominatesFrom board places place place) (2 ^ 64 - 1)
all_set board places place label low = (
  λ set other from to. absurd (omega (arith, from, to)),
  λ all. bit_at_ones 64 label low,
)

-- the labels that dominate a place, from the bits of those that dominate a label
pub row_word : (board : PlainBoard) (bits : List ℕ) (place : ℕ) → place < board.labels
    → ((x : ℕ) → x < MAX_LABELS → (has_bit bits x ≡ true) ↔ Dominates board x place)
    → AreBitsOf (λ label. DominatesPlace board label place) (get_or bits 0 0)
row_word board bits place is_label beaten label low =
    let same : 64 * 0 + label ≡ label = omega arith in
    let bit = subst (λ x. has_bit bits x ≡ nat_eq (bit_at (get_or bits 0 0) label) 1) same
    (bit_of_word bits 0 label low) in
    let small : label < MAX_LABELS = omega arith in (
      λ set held. (beaten label small).0 (bit ∙ eq-eqb (bit_at (get_or bits 0 0) label) 1 set),
      λ dominates. eqb-true (bit_at (get_or bits 0 0) label) 1 (sym bit ∙ (beaten label small).1 (dominates is_label)),
    )

pub blank_word : (board : PlainBoard) (place : ℕ) → board.labels ≤ place
    → AreBitsOf (λ label. DominatesPlace board label place) (2 ^ 64 - 1)
blank_word board place blank label low = (
  λ set held. absurd (omega (arith, held, blank)),
  λ all. bit_at_ones 64 label low,
)

-- one more place, at the end or before the first
pub next_before : (board : PlainBoard) (places : List ℕ) (end word row : ℕ)
    → AreBitsOf (λ label. DominatesPlace board label (get_or places end 0)) row
    → AreBitsOf (DominatesFrom board places 0 end) word
    → AreBitsOf (DominatesFrom board places 0 (end + 1)) (bit_and word row)
next_before board places end word row of_row of_word =
    bits_of_both (DominatesFrom board places 0 end) (λ label. DominatesPlace board label (get_or places end 0))
    (DominatesFrom board places 0 (end + 1)) word row (λ label. (
      λ all. (λ other from to. all other from (omega arith), all end (omega arith) (omega arith)),
      λ each other from to. elim (cases_eq other end) [
        | inl same ↦ subst (λ k. DominatesPlace board label (get_or places k 0)) (sym same) each.1
        | inr differs ↦ each.0 other from (omega (arith, to, differs))
      ],
    )) of_word of_row

pub next_after : (board : PlainBoard) (places : List ℕ) (first end word row : ℕ) → first < end
    → AreBitsOf (λ label. DominatesPlace board label (get_or places first 0)) row
    → AreBitsOf (DominatesFrom board places (first + 1) end) word
    → AreBitsOf (DominatesFrom board places first end) (bit_and word row)
next_after board places first end word row some of_row of_word =
    bits_of_both (DominatesFrom board places (first + 1) end)
    (λ label. DominatesPlace board label (get_or places first 0)) (DominatesFrom board places first end) word row
    (λ label. (
      λ all. (λ other from to. all other (omega arith) to, all first (omega arith) some),
      λ each other from to. elim (cases_eq other first) [
        | inl same ↦ subst (λ k. DominatesPlace board label (get_or places k 0)) (sym same) each.1
        | inr differs ↦ each.0 other (omega (arith, from, differs)) to
      ],
    )) of_word of_row

-- those before a pebble's own place and those after it
pub of_others : (board : PlainBoard) (places : List ℕ) (pebble before after : ℕ) → pebble < board.pebbles
    → AreBitsOf (DominatesFrom board places 0 pebble) before
    → AreBitsOf (DominatesFrom board places (pebble + 1) board.pebbles) after
    → AreBitsOf (DominatesOthers board places pebble) (bit_and before after)
of_others board places pebble before after inside of_before of_after =
    bits_of_both (DominatesFrom board places 0 pebble) (DominatesFrom board places (pebble + 1) board.pebbles)
    (DominatesOthers board places pebble) before after (λ label. (
      λ all. (
        λ other from to. all other (omega arith) (λ same. omega arith),
        λ other from to. all other to (λ same. omega arith),
      ),
      λ each other below differs. elim (cases_lt other pebble) [
        | inl earlier ↦ each.0 other (omega arith) earlier
        | inr later ↦ each.1 other (omega (arith, later, differs)) below
      ],
    )) of_before of_after

-- ---- a word for each pebble

-- the words of the first pebbles, and the labels that dominate all their places
pub record AreMadeBefore (board : PlainBoard) (places : List ℕ) (end : ℕ) (words : List ℕ) (before : ℕ) : Type 0 where
  pub sized : length words ≡ MAX_PEBBLES
  pub each : AreOfEarlier board places end words
  pub all : AreBitsOf (DominatesFrom board places 0 end) before

pub made_next : (board : PlainBoard) (places : List ℕ) (end : ℕ) (words : List ℕ) (before row : ℕ) → end < MAX_PEBBLES
    → AreBitsOf (λ label. DominatesPlace board label (get_or places end 0)) row
    → AreMadeBefore board places end words before
    → AreMadeBefore board places (end + 1) (set words end before) (bit_and before row)
made_next board places end words before row inside of_row made = record {
  sized = length-set words end before ∙ made.sized;
  each = λ pebble below. elim (cases_eq pebble end) [
    | inl same ↦
        let word : get_or (set words end before) end 0 ≡ before =
        get_or-set_same words end before 0 (omega (arith, inside, made.sized)) in
        subst (λ k. AreBitsOf (DominatesFrom board places 0 k) (get_or (set words end before) k 0)) (sym same)
        (subst (AreBitsOf (DominatesFrom board places 0 end)) (sym word) made.all)
    | inr differs ↦ subst (AreBitsOf (DominatesFrom board places 0 pebble))
        (sym (get_or-set_other words end pebble before 0 differs)) (made.each pebble (omega (arith, below, differs)))
  ];
  all = next_before board places end before row of_row made.all;
}

-- the words of the pebbles from one on, and the labels that dominate all their places
pub record AreMadeFrom (board : PlainBoard) (places : List ℕ) (first : ℕ) (words : List ℕ) (after : ℕ) : Type 0 where
  pub sized : length words ≡ MAX_PEBBLES
  pub earlier : AreOfEarlier board places first words
  pub each : (pebble : ℕ) → first ≤ pebble → pebble < board.pebbles
      → AreBitsOf (DominatesOthers board places pebble) (get_or words pebble 0)
  pub all : AreBitsOf (DominatesFrom board places first board.pebbles) after

pub made_previous : (board : PlainBoard) (places : List ℕ) (first : ℕ) (words : List ℕ) (after row : ℕ)
    → board.pebbles ≤ MAX_PEBBLES → first < board.pebbles
    → AreBitsOf (λ label. DominatesPlace board label (get_or places first 0)) row
    → AreMadeFrom board places (first + 1) words after
    → AreMadeFrom board places first (set words first (bit_and (get_or words first 0) after)) (bit_and after row)
made_previous board places first words after row few inside of_row made =
    let word : ℕ = bit_and (get_or words first 0) after in record {
      sized = length-set words first word ∙ made.sized;
      earlier = λ pebble below. subst (AreBitsOf (DominatesFrom board places 0 pebble))
          (sym (get_or-set_other words first pebble word 0 (λ same. omega (arith, below, same))))
          (made.earlier pebble (omega (arith, below)));
      each = λ pebble from below. elim (cases_eq pebble first) [
        | inl same ↦
            let is : get_or (set words first word) first 0 ≡ word =
            get_or-set_same words first word 0 (omega (arith, inside, few, made.sized)) in
            subst (λ k. AreBitsOf (DominatesOthers board places k) (get_or (set words first word) k 0)) (sym same)
            (subst (AreBitsOf (DominatesOthers board places first)) (sym is)
            (of_others board places first (get_or words first 0) after inside (made.earlier first (omega arith))
            made.all))
        | inr differs ↦ subst (AreBitsOf (DominatesOthers board places pebble))
            (sym (get_or-set_other words first pebble word 0 differs))
            (made.each pebble (omega (arith, from, differs)) below)
      ];
      all = next_after board places first board.pebbles after row inside of_row made.all;
    }
