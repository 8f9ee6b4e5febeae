-- The values of configurations by their ranks, and the number of configurations of each.
use Rattle.std.proofs.Common.{◌≡◌, ◌≢◌, ℕ, ◌+◌, ◌<◌, ◌≤◌, ◌==◌, ◌↔◌, IsTrue, inl, inr, false, true, cond, suc, refl}
use Rattle.std.proofs.Common.{arith, sym, ap, ◌∙◌, subst, List, [], ◌∷◌, Contains, length, slice_index, slice_set}
use Rattle.std.proofs.Common.{length-set, get_or-set_same, get_or-set_other}
use Rattle.std.proofs.lemmas.Bool.{cases_eq, cases_lt}
use Rattle.std.proofs.lemmas.Bool.Decides.{nat_tests}
use Rattle.board_text.specs.PlainBoard.{PlainBoard, IsBoard, IsConfiguration}
use Rattle.positions.specs.Counts.{HasSize}
use Rattle.positions.specs.Gaps.{gaps, IsAnswer}
use Rattle.positions.specs.Laws.{Occurs}
use Rattle.positions.specs.Ranks.{configurations, rank_of, configuration_at}
use Rattle.positions.specs.Value.{HasValue}
use Rattle.positions.specs.declared.space.TheConstants.{MAX_CONFIGURATIONS}
use Rattle.positions.specs.declared.value.Value.TheVariants.{Finite, Forever}
use Rattle.positions.proofs.Cited.{configuration_at_is, rank_below, configuration_at-rank_of, same_value, size_of}
use Rattle.positions.proofs.Cited.{size_zero}
use Rattle.gap_values.specs.RoundWords.{round_of_word}
use Rattle.gap_values.proofs.Cited.{round-finite, round-none}
use Rattle.graphs.specs.Answers.{AreAnswerBits}
use Rattle.graphs.specs.Graph.{count_below}
use Rattle.graphs.specs.Numbered.{numbered, graph_by, graph_of, configuration_by, Ordered}
use Rattle.graphs.proofs.Cited.{answer-in, answer-of, same_is, same_or_not, true_not_false}
use Rattle.solver.specs.Inside.Tables.{is_open}
use Rattle.solver.specs.Inside.Values.{AreWordCounts, AreSizes, AreRankValues}
use Rattle.solver.specs.LabelSets.{IsInSet}
use Rattle.solver.specs.Sizes.{HasCount}
use Rattle.solver.specs.Words.{AreValueWords}
use Rattle.gap_values.specs.declared.closing.TheConstants.{OPEN}
use Rattle.solver.proofs.AnswerSizes.{count-same}

-- ---- counts of words

differ : (m n : ℕ) → (m ≡ n → ⊥) → (m == n) ≡ false
differ m n d = grind (arith, nat_tests)

test_same : (m n : ℕ) → (m == n) ≡ true → m ≡ n
test_same m n e = grind (arith, nat_tests)

-- a test of a word tells what the word tells
pub told : (word kept : ℕ) (P : Type 0) → word ≡ kept → (kept ≡ OPEN) ↔ P → IsTrue (word == OPEN) ↔ P
told word kept P same is =
    (λ yes. is.0 (sym same ∙ test_same word OPEN yes), λ holds. same_is word OPEN (same ∙ is.1 holds))

counted_here : (words : List ℕ) (k v : ℕ) → slice_index words k ≡ v
    → count_below (suc k) (λ x. slice_index words x == v) ≡ count_below k (λ x. slice_index words x == v) + 1
counted_here words k v same =
    ap (λ t. count_below k (λ x. slice_index words x == v) + cond t 1 0) (same_is (slice_index words k) v same)

counted_away : (words : List ℕ) (k v : ℕ) → (slice_index words k ≡ v → ⊥)
    → count_below (suc k) (λ x. slice_index words x == v) ≡ count_below k (λ x. slice_index words x == v)
counted_away words k v other =
    let so_far : ℕ = count_below k (λ x. slice_index words x == v) in
    ap (λ t. so_far + cond t 1 0) (differ (slice_index words k) v other) ∙ (omega arith)

-- a word that is a value is counted with the value
pub counts-add : (words sizes : List ℕ) (k : ℕ) → slice_index words k < length sizes → AreWordCounts words k sizes
    → AreWordCounts words (suc k)
    (slice_set sizes (slice_index words k) (slice_index sizes (slice_index words k) + 1))
counts-add words sizes k low are v inside =
    let w : ℕ = slice_index words k in
    elim (same_or_not v w) [
      | inl same ↦
          ap (slice_index (slice_set sizes w (slice_index sizes w + 1))) same
          ∙ get_or-set_same sizes w (slice_index sizes w + 1) 0 low
          ∙ ap (λ n. n + 1) (are w low ∙ ap (λ u. count_below k (λ x. slice_index words x == u)) (sym same))
          ∙ sym (counted_here words k v (sym same))
      | inr other ↦
          get_or-set_other sizes w v (slice_index sizes w + 1) 0 other
          ∙ are v (subst (λ n. v < n) (length-set sizes w (slice_index sizes w + 1)) inside)
          ∙ sym (counted_away words k v (λ e. other (sym e)))
    ]

-- a word that is no value is counted with none
pub counts-skip : (words sizes : List ℕ) (k : ℕ) → slice_index words k ≡ OPEN → length sizes ≤ OPEN
    → AreWordCounts words k sizes → AreWordCounts words (suc k) sizes
counts-skip words sizes k none small are v inside =
    are v inside ∙ sym (counted_away words k v (λ e. omega arith))

pub open-add : (words : List ℕ) (k : ℕ) → slice_index words k ≡ OPEN
    → count_below (suc k) (is_open words) ≡ count_below k (is_open words) + 1
open-add words k none = counted_here words k OPEN none

pub open-skip : (words : List ℕ) (k : ℕ) → (slice_index words k ≡ OPEN → ⊥)
    → count_below (suc k) (is_open words) ≡ count_below k (is_open words)
open-skip words k valued = counted_away words k OPEN valued

-- ---- the values of a board whose numbers are ranks

finite_not_forever : (v : ℕ) → Finite v ≡ Forever → ⊥
finite_not_forever v e = cc

same_number : (m n : ℕ) → Finite m ≡ Finite n → m ≡ n
same_number m n e = cc

-- a word that stands for a finite value is this value
value_of_finite : (word v : ℕ) → round_of_word word ≡ Finite v → (word ≡ v) × (v < OPEN)
value_of_finite word v same = elim (cases_lt word 4294967295) [
  | inl low ↦
      let is : word ≡ v = same_number word v (sym (round-finite word low) ∙ same) in
      (is, omega (arith, is, low))
  | inr high ↦ absurd (finite_not_forever v (sym same ∙ round-none word high))
]

-- and one that stands for Forever is none
none_of_forever : (word : ℕ) → round_of_word word ≡ Forever → word < OPEN → ⊥
none_of_forever word same low = finite_not_forever word (sym (round-finite word low) ∙ same)

module _ (board : PlainBoard) (words : List ℕ) (are : AreValueWords (numbered board Ordered) words) where
  size : length words ≡ configurations board
  unfolding graph_by
  size = are.size

  value : (rank : ℕ) → rank < configurations board
      → HasValue board (configuration_at board rank) (round_of_word (slice_index words rank))
  unfolding graph_by configuration_by
  value rank low = are.each rank low

  few : (rank : ℕ) → rank < configurations board → slice_index words rank ≤ OPEN
  unfolding graph_by
  few rank low = elim (cases_eq (slice_index words rank) 4294967295) [
    | inl same ↦ omega (arith, same)
    | inr other ↦ let small = are.few rank low other in omega (arith, small)
  ]

  count-finite : (v : ℕ) → v < OPEN
      → HasCount board (Finite v) (count_below (length words) (λ x. slice_index words x == v))
  count-finite v small =
      subst (HasCount board (Finite v)) (count-same (λ x. slice_index words x == v) (length words))
      (size_of (λ rank. (rank < configurations board) × HasValue board (configuration_at board rank) (Finite v))
      (λ x. slice_index words x == v) (length words) (λ rank. (
        λ has.
            let low : rank < configurations board = has.0 in
            let same = same_value board (configuration_at board rank) (round_of_word (slice_index words rank))
            (Finite v) (value rank low) has.1 in (
              omega (arith, size, low),
              same_is (slice_index words rank) v (value_of_finite (slice_index words rank) v same).0,
            ),
        λ counted.
            let low : rank < configurations board = omega (arith, size, counted.0) in
            let same = test_same (slice_index words rank) v counted.1 in (
              low,
              subst (HasValue board (configuration_at board rank)) (ap round_of_word same ∙ round-finite v small)
                  (value rank low),
            ),
      )))

  count-forever : HasCount board Forever (count_below (length words) (is_open words))
  count-forever =
      subst (HasCount board Forever) (count-same (is_open words) (length words))
      (size_of (λ rank. (rank < configurations board) × HasValue board (configuration_at board rank) Forever)
      (is_open words) (length words) (λ rank. (
        λ has.
            let low : rank < configurations board = has.0 in
            let same = same_value board (configuration_at board rank) (round_of_word (slice_index words rank))
            Forever (value rank low) has.1 in
            let most = few rank low in (
              omega (arith, size, low),
              same_is (slice_index words rank) OPEN (elim (cases_eq (slice_index words rank) 4294967295) [
                | inl is ↦ omega (arith, is)
                | inr other ↦ absurd (none_of_forever (slice_index words rank) same (omega (arith, other, most)))
              ]),
            ),
        λ counted.
            let low : rank < configurations board = omega (arith, size, counted.0) in
            let same = test_same (slice_index words rank) OPEN counted.1 in (
              low,
              subst (HasValue board (configuration_at board rank)) (round-none (slice_index words rank)
                  (omega (arith, same))) (value rank low),
            ),
      )))

  beyond : (bound : ℕ) → ((x : ℕ) → x < length words → slice_index words x ≢ OPEN → slice_index words x < bound)
      → (v : ℕ) → bound ≤ v → Occurs board v → ⊥
  beyond bound inside v high occurs =
      let c : List ℕ = occurs.0 in
      let rank : ℕ = rank_of board c in
      let low : rank < configurations board = rank_below board c occurs.1 in
      let has : HasValue board (configuration_at board rank) (Finite v) =
      subst (λ (d : List ℕ). HasValue board d (Finite v)) (sym (configuration_at-rank_of board c occurs.1)) occurs.2 in
      let same = value_of_finite (slice_index words rank) v
      (same_value board (configuration_at board rank) (round_of_word (slice_index words rank)) (Finite v)
      (value rank low) has) in
      let less = inside rank (omega (arith, size, low)) (λ none. omega (arith, none, same.0, same.1)) in
      omega (arith, less, same.0, high)

  pub sized : (bound : ℕ) (sizes : List ℕ) (forever : ℕ)
      → ((x : ℕ) → x < length words → slice_index words x ≢ OPEN → slice_index words x < bound)
      → bound ≤ OPEN → length sizes ≡ bound
      → AreWordCounts words (length words) sizes → forever ≡ count_below (length words) (is_open words)
      → AreSizes board sizes forever
  sized bound sizes forever inside small wide counts forever_is = record {
    few = omega (arith, wide, small);
    finite = λ v low. subst (HasCount board (Finite v)) (sym (counts v low)) (count-finite v (omega (
      arith,
      low,
      wide,
      small,
    )));
    beyond = λ v high. beyond bound inside v (omega (arith, high, wide));
    unending = subst (HasCount board Forever) (sym forever_is) count-forever;
  }

  -- so many words fit 32 bits
  pub words-fit : configurations board ≤ MAX_CONFIGURATIONS → length words < 4294967296
  words-fit small = omega (arith, size, small)

-- a word that is a value is below the bound of all such words
pub open-inside : (words : List ℕ) (bound : ℕ)
    → ((x : ℕ) → x < length words → slice_index words x ≢ OPEN → slice_index words x < bound)
    → (x : ℕ) → x < length words → is_open words x ≡ false → slice_index words x < bound
open-inside words bound inside x low shut =
    inside x low (λ none. true_not_false (is_open words x) (same_is (slice_index words x) OPEN none) shut)

module _ (board : PlainBoard) (words sizes : List ℕ) (forever : ℕ) (are : AreRankValues board words sizes forever) where
  pub rank-inside : (rank : ℕ) → rank < configurations board → rank < length words
  rank-inside rank low = omega (arith, size board words are.valued, low)

  pub rank-value : (rank : ℕ) → rank < configurations board
      → HasValue board (configuration_at board rank) (round_of_word (slice_index words rank))
  rank-value rank low = value board words are.valued rank low

  pub rank-few : (rank : ℕ) → rank < configurations board → slice_index words rank ≤ OPEN
  rank-few rank low = few board words are.valued rank low

  -- the rank of a configuration has the configuration's word
  pub held-value : (c : List ℕ) → IsConfiguration board c
      → HasValue board c (round_of_word (slice_index words (rank_of board c)))
  held-value c is =
      subst (λ (d : List ℕ). HasValue board d (round_of_word (slice_index words (rank_of board c))))
      (configuration_at-rank_of board c is) (rank-value (rank_of board c) (rank_below board c is))

  -- a configuration has the word of no value exactly if it lasts forever
  pub held-forever : (c : List ℕ) → IsConfiguration board c
      → (slice_index words (rank_of board c) ≡ OPEN) ↔ HasValue board c Forever
  held-forever c is = (
    λ none. subst (HasValue board c) (round-none (slice_index words (rank_of board c)) (omega (arith, none)))
        (held-value c is),
    λ has.
        let word : ℕ = slice_index words (rank_of board c) in
        let same = same_value board c (round_of_word word) Forever (held-value c is) has in
        let most = rank-few (rank_of board c) (rank_below board c is) in
        elim (cases_eq word 4294967295) [
          | inl none ↦ omega (arith, none)
          | inr other ↦ absurd (none_of_forever word same (omega (arith, other, most)))
        ],
  )

  -- no configuration has a value beyond the sizes, and one that a size counts has its value
  pub count-beyond : (v : ℕ) → length sizes ≤ v → HasCount board (Finite v) 0
  count-beyond v high =
      (size_zero _).1 (λ rank has. are.sized.beyond v high (
        configuration_at board rank,
        configuration_at_is board rank has.0,
        has.1,
      ))

  pub none-occurs : (v : ℕ) → v < length sizes → slice_index sizes v ≡ 0 → Occurs board v → ⊥
  none-occurs v low none occurs =
      let c : List ℕ = occurs.0 in
      (size_zero _).0 (subst (HasCount board (Finite v)) none (are.sized.finite v low)) (rank_of board c) (
        rank_below board c occurs.1,
        subst (λ (d : List ℕ). HasValue board d (Finite v))
            (sym (configuration_at-rank_of board c occurs.1)) occurs.2,
      )

  pub some-occurs : (v : ℕ) → v < length sizes → 0 < slice_index sizes v → Occurs board v
  some-occurs v low some =
      let one = some-counted _ _ (are.sized.finite v low) some in (
        configuration_at board one.0,
        configuration_at_is board one.0 one.1.0,
        one.1.1,
      )
    where
      some-counted : (P : ℕ → Type 0) (count : ℕ) → HasSize P count → 0 < count → (k : ℕ) × P k
      some-counted P count has some = found has.members refl
        where
          found : (members : List ℕ) → members ≡ has.members → (k : ℕ) × P k
          found [] e = absurd (let many = has.so_many in let none = ap length e in omega arith)
          found (k ∷ rest) e = (k, (has.each k).0 (subst (λ (l : List ℕ). Contains l k) e (0, omega arith, refl)))

-- the bits of a gap's answers are its answers
pub answer-set : (board : PlainBoard) (gap : ℕ) (labels : List ℕ) → IsBoard board
    → gap < gaps board → AreAnswerBits (graph_of (numbered board Ordered)) gap labels
    → (label : ℕ) → IsInSet labels label ↔ IsAnswer board gap label
unfolding graph_by
answer-set board gap labels is low are label = (
  λ set. answer-of board is gap low label ((are.each label set.0).0 set.1),
  λ answer.
      let is_in = answer-in board is gap low label answer in
      let small = are.few label is_in in
      (small, (are.each label small).1 is_in),
)
