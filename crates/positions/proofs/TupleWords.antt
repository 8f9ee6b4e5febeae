-- The words of labels that dominate tuples of places, made place by place.
use Rattle.std.proofs.Common.{◌≡◌, ℕ, zero, suc, ◌+◌, ◌-◌, ◌*◌, ◌/◌, ◌%◌, ◌^◌, ◌<◌, ◌≤◌, ◌↔◌, min, nat_eq, bit_and}
use Rattle.std.proofs.Common.{true, List, [], ◌∷◌, ◌++◌, length, get_or, sym, ap, ◌∙◌, subst, inl, inr, arith}
use Rattle.std.specs.Int.{bit_at}
use Rattle.std.specs.List.{All}
use Rattle.std.proofs.Math.Nat.{pow-zero, pow-succ', pow-le-pow_right}
use Rattle.std.proofs.lemmas.Bool.{cases_lt, eqb-true, eq-eqb}
use Rattle.std.proofs.lemmas.Nat.{div-mul-add, mod-mul-add}
use Rattle.std.proofs.lemmas.Nat.Bits.{bit_at_and, bit_at-lt}
use Rattle.std.proofs.lemmas.List.{length_push, get_or_push, get_or_append_left}
use Rattle.std.proofs.lemmas.List.Elements.{All-nil, All-cons, All-head, All-tail}
use Rattle.board_text.specs.PlainBoard.{PlainBoard, IsBoard, Dominates, DominatesPlace, places}
use Rattle.board_text.specs.Domination.{has_bit}
use Rattle.board_text.specs.declared.board.TheConstants.{MAX_LABELS}
use Rattle.board_text.proofs.Cited.{some_places}
use Rattle.positions.specs.Ranks.{configurations, digits_of}
use Rattle.positions.specs.Gaps.{gaps, gaps_each, AnswersGap, IsAnswer}
use Rattle.positions.specs.Tuples.{tuple_of}
use Rattle.positions.specs.Inside.Tuples.{AreDominating, AreTupleWords, AreAllWords, IsColumn, AreColumns}
use Rattle.positions.specs.declared.space.TheConstants.{MAX_CONFIGURATIONS}

-- the bit of a label in a row is one of the word of its column
pub bit_of_word : (row : List ℕ) (number bit : ℕ) → bit < 64
    → (has_bit row (64 * number + bit) ≡ true) ↔ (bit_at (get_or row number 0) bit ≡ 1)
bit_of_word row number bit small =
    let word : (64 * number + bit) / 64 ≡ number = omega arith in
    let place : (64 * number + bit) % 64 ≡ bit = omega arith in
    let same : has_bit row (64 * number + bit) ≡ nat_eq (bit_at (get_or row number 0) bit) 1 =
    ap (λ (k : ℕ). nat_eq (bit_at (get_or row k 0) ((64 * number + bit) % 64)) 1) word
    ∙ ap (λ (k : ℕ). nat_eq (bit_at (get_or row number 0) k) 1) place in (
      λ set. eqb-true (bit_at (get_or row number 0) bit) 1 (sym same ∙ set),
      λ is. same ∙ eq-eqb (bit_at (get_or row number 0) bit) 1 is,
    )

-- the bits that two words share
pub bit_of_both_words : (first second bit : ℕ)
    → (bit_at (bit_and first second) bit ≡ 1) ↔ ((bit_at first bit ≡ 1) × (bit_at second bit ≡ 1))
bit_of_both_words first second bit =
    let same : bit_at (bit_and first second) bit ≡ min (bit_at first bit) (bit_at second bit) =
    bit_at_and first second bit in
    let one : bit_at first bit < 2 = bit_at-lt first bit in
    let other : bit_at second bit < 2 = bit_at-lt second bit in
    (λ both. (omega arith, omega arith), λ each. (let left = each.0 in let right = each.1 in omega arith))

-- the word has the bits of the labels of a column
abbrev pub IsEvery : PlainBoard → ℕ → ℕ → Type 0
IsEvery board number word = (bit : ℕ) → bit < 64 → (bit_at word bit ≡ 1) ↔ (64 * number + bit < board.labels)

-- the labels of a column that dominate the label of a place, or all if it holds none
abbrev pub DominatesOne : PlainBoard → ℕ → ℕ → ℕ → Type 0
DominatesOne board number place word =
    (bit : ℕ) → bit < 64 → (bit_at word bit ≡ 1)
    ↔ ((64 * number + bit < board.labels) × DominatesPlace board (64 * number + bit) place)

-- the word of a column in the row of all labels
pub word_of_every : (board : PlainBoard) (number : ℕ) (every : List ℕ) → number < 4
    → ((x : ℕ) → x < MAX_LABELS → (has_bit every x ≡ true) ↔ (x < board.labels))
    → IsEvery board number (get_or every number 0)
word_of_every board number every inside labels bit small = (
  λ set. (labels (64 * number + bit) (omega arith)).0 ((bit_of_word every number bit small).1 set),
  λ less. (bit_of_word every number bit small).0 ((labels (64 * number + bit) (omega arith)).1 less),
)

-- the labels of a column that dominate a label
pub beating_label : (board : PlainBoard) (number place every : ℕ) (row : List ℕ) → number < 4 → place < board.labels
    → IsEvery board number every
    → ((x : ℕ) → x < MAX_LABELS → (has_bit row x ≡ true) ↔ Dominates board x place)
    → DominatesOne board number place (bit_and every (get_or row number 0))
beating_label board number place every row inside held labels beats bit small = (
  λ set.
      let both = (bit_of_both_words every (get_or row number 0) bit).0 set in (
        (labels bit small).0 both.0,
        λ low. (beats (64 * number + bit) (omega arith)).0
            ((bit_of_word row number bit small).1 both.1),
      ),
  λ is. (bit_of_both_words every (get_or row number 0) bit).1 (
    (labels bit small).1 is.0,
    (bit_of_word row number bit small).0 ((beats (64 * number + bit) (omega arith)).1 (is.1 held)),
  ),
)

-- a place that holds no label is dominated by each
pub beating_blank : (board : PlainBoard) (number place every : ℕ) → board.labels ≤ place → IsEvery board number every
    → DominatesOne board number place every
beating_blank board number place every none labels bit small = (
  λ set. ((labels bit small).0 set, λ held. absurd (omega arith)),
  λ is. (labels bit small).1 is.0,
)

-- without places each label dominates
pub no_places : (board : PlainBoard) (number every : ℕ) (words : List ℕ) → words ≡ every ∷ []
    → IsEvery board number every → AreAllWords board number 0 words
no_places board number every words is labels = subst (AreAllWords board number 0) (sym is) (record {
  each = λ tuple inside.
      let first : tuple ≡ 0 = omega arith in
      subst (λ (n : ℕ). AreDominating board number [] (get_or (every ∷ []) n 0)) (sym first) (λ bit small. (
        λ set. ((labels bit small).0 set, All-nil (DominatesPlace board (64 * number + bit))),
        λ is. (labels bit small).1 is.0,
      ));
  so_many = sym (pow-zero (places board));
})

-- the labels that dominate one more place
pub one_more_place : (board : PlainBoard) (number : ℕ) (held : List ℕ) (word beating place : ℕ)
    → AreDominating board number held word
    → DominatesOne board number place beating → AreDominating board number (place ∷ held) (bit_and word beating)
one_more_place board number held word beating place before beats bit small = (
  λ set.
      let each = (bit_of_both_words word beating bit).0 set in
      let others = (before bit small).0 each.0 in (
        others.0,
        All-cons (DominatesPlace board (64 * number + bit)) place held
            ((beats bit small).0 each.1).1 others.1,
      ),
  λ is. (bit_of_both_words word beating bit).1 (
    (before bit small).1 (is.0, All-tail (DominatesPlace board (64 * number + bit)) place held is.1),
    (beats bit small).1 (is.0, All-head (DominatesPlace board (64 * number + bit)) place held is.1),
  ),
)

-- one more word of the tuples with one more place
pub one_more_word : (board : PlainBoard) (number count : ℕ) (fewer more : List ℕ) (place at beating : ℕ)
    → AreAllWords board number count fewer → AreTupleWords board number (suc count) more
    → length more ≡ place * length fewer + at → at < length fewer
    → DominatesOne board number place beating
    → AreTupleWords board number (suc count) (more ++ bit_and (get_or fewer at 0) beating ∷ [])
one_more_word board number count fewer more place at beating all so_far size inside beats tuple below =
    elim (cases_lt tuple (length more)) [
      | inl old ↦ subst (λ (w : ℕ). AreDominating board number (digits_of (places board) (suc count) tuple) w)
          (sym (get_or_append_left more (new ∷ []) 0 tuple old)) (so_far tuple old)
      | inr late ↦
          let each : ℕ = places board ^ count in
          let long : length (more ++ new ∷ []) ≡ length more + 1 = length_push more new in
          let last : length more ≡ tuple = omega arith in
          let many : length fewer ≡ each = all.so_many in
          let low : at < each = omega arith in
          let spelled : tuple ≡ place * each + at = sym last ∙ size ∙ ap (λ n. place * n + at) many in
          let first : tuple / each ≡ place = ap (λ n. n / each) spelled ∙ div-mul-add place each at low in
          let rest : tuple % each ≡ at = ap (λ n. n % each) spelled ∙ mod-mul-add place each at low in
          let held : digits_of (places board) (suc count) tuple ≡ place ∷ digits_of (places board) count at =
          ap (λ n. n ∷ digits_of (places board) count (tuple % each)) first
          ∙ ap (λ n. place ∷ digits_of (places board) count n) rest in
          subst (λ (h : List ℕ). AreDominating board number h (get_or (more ++ new ∷ []) tuple 0)) (sym held)
          (subst (λ (w : ℕ). AreDominating board number (place ∷ digits_of (places board) count at) w)
          (sym (get_or_push more new 0 tuple last))
          (one_more_place board number (digits_of (places board) count at) (get_or fewer at 0) beating place
          (all.each at inside) beats))
    ] where
      new : ℕ
      new = bit_and (get_or fewer at 0) beating

-- the words for one more place are whole after all places
pub all_places : (board : PlainBoard) (number count : ℕ) (fewer more : List ℕ) → AreAllWords board number count fewer
    → AreTupleWords board number (suc count) more
    → length more ≡ places board * length fewer → AreAllWords board number (suc count) more
all_places board number count fewer more all words size = record {
  each = words;
  so_many = size ∙ ap (λ n. places board * n) all.so_many ∙ sym (pow-succ' (places board) count);
}

-- a word for each tuple
pub whole_column : (board : PlainBoard) (number : ℕ) (words : List ℕ)
    → AreAllWords board number (board.pebbles - 1) words → IsColumn board number words
whole_column board number words all tuple inside = all.each tuple (subst (λ n. tuple < n) (sym all.so_many) inside)

-- four columns
pub four_columns : (board : PlainBoard) (first second third fourth : List ℕ) → IsColumn board 0 first
    → IsColumn board 1 second → IsColumn board 2 third → IsColumn board 3 fourth
    → AreColumns board (first ∷ second ∷ third ∷ fourth ∷ [])
four_columns board first second third fourth one two three four zero d low = one
four_columns board first second third fourth one two three four (suc zero) d low = two
four_columns board first second third fourth one two three four (suc (suc zero)) d low = three
four_columns board first second third fourth one two three four (suc (suc (suc zero))) d low = four
four_columns board first second third fourth one two three four (suc (suc (suc (suc number)))) d low =
    absurd (omega arith)

-- the word of a tuple in a column
abbrev pub IsWordIn : List (List ℕ) → ℕ → ℕ → ℕ → Type 0
IsWordIn columns tuple number word = (d : List ℕ) × (word ≡ get_or (get_or columns number d) tuple 0)

-- the words of a tuple in four columns
pub row_of_columns : (columns : List (List ℕ)) (tuple first second third fourth : ℕ) (row : List ℕ)
    → row ≡ first ∷ second ∷ third ∷ fourth ∷ []
    → IsWordIn columns tuple 0 first → IsWordIn columns tuple 1 second → IsWordIn columns tuple 2 third
    → IsWordIn columns tuple 3 fourth
    → (number : ℕ) → number < 4 → IsWordIn columns tuple number (get_or row number 0)
row_of_columns columns tuple first second third fourth row is one two three four zero low =
    (one.0, ap (λ (r : List ℕ). get_or r 0 0) is ∙ one.1)
row_of_columns columns tuple first second third fourth row is one two three four (suc zero) low =
    (two.0, ap (λ (r : List ℕ). get_or r 1 0) is ∙ two.1)
row_of_columns columns tuple first second third fourth row is one two three four (suc (suc zero)) low =
    (three.0, ap (λ (r : List ℕ). get_or r 2 0) is ∙ three.1)
row_of_columns columns tuple first second third fourth row is one two three four (suc (suc (suc zero))) low =
    (four.0, ap (λ (r : List ℕ). get_or r 3 0) is ∙ four.1)
row_of_columns columns tuple first second third fourth row is one two three four (suc (suc (suc (suc number)))) low =
    absurd (omega arith)

-- the words of a tuple have the gap's answers
pub answers_of_tuple : (board : PlainBoard) (columns : List (List ℕ)) (tuple : ℕ) (row : List ℕ)
    → AreColumns board columns → tuple < gaps_each board
    → ((number : ℕ) → number < 4 → IsWordIn columns tuple number (get_or row number 0)) → (gap : ℕ) → gap < gaps board
    → tuple_of board gap ≡ tuple
    → (label : ℕ) → label < MAX_LABELS → (has_bit row label ≡ true) ↔ IsAnswer board gap label
answers_of_tuple board columns tuple row all inside words gap below same label small =
    let held : List ℕ = digits_of (places board) (board.pebbles - 1) tuple in
    let number : ℕ = label / 64 in
    let bit : ℕ = label % 64 in
    let spelled : 64 * number + bit ≡ label = omega arith in
    let word = words number (omega arith) in
    let beating : AreDominating board number held (get_or row number 0) =
    subst (λ (w : ℕ). AreDominating board number held w) (sym word.1) (all number word.0 (omega arith) tuple inside) in
    let here : (has_bit row label ≡ true) ↔ ((label < board.labels) × All (DominatesPlace board label) held) =
    subst (λ (x : ℕ). (has_bit row x ≡ true) ↔ ((x < board.labels) × All (DominatesPlace board x) held)) spelled (
      λ set. (beating bit (omega arith)).0 ((bit_of_word row number bit (omega arith)).0 set),
      λ is. (bit_of_word row number bit (omega arith)).1 ((beating bit (omega arith)).1 is),
    ) in
    subst (λ (t : ℕ). (has_bit row label ≡ true)
    ↔ AnswersGap board (digits_of (places board) (board.pebbles - 1) t) label) (sym same) (
      λ set. let is = here.0 set in record { is_label = is.0; dominates = is.1 },
      λ answer. here.1 (answer.is_label, answer.dominates),
    )

-- there are no more tuples of one more place than configurations
pub room_for_more : (board : PlainBoard) (number count : ℕ) (words : List ℕ) → AreAllWords board number count words
    → IsBoard board → configurations board ≤ MAX_CONFIGURATIONS → count < board.pebbles
    → places board * length words ≤ MAX_CONFIGURATIONS
room_for_more board number count words all is few inside =
    let many : places board * length words ≡ places board ^ suc count =
    ap (λ n. places board * n) all.so_many ∙ sym (pow-succ' (places board) count) in
    let most : places board ^ suc count ≤ places board ^ board.pebbles =
    pow-le-pow_right (some_places board is) (omega arith) in
    omega arith
