-- How many gaps are open when each round begins.
use Rattle.std.proofs.Common.{◌≡◌, ◌≢◌, ◌↔◌, ◌∙◌, ◌+◌, ◌-◌, ◌<◌, ◌≤◌, ℕ, zero, suc, List, [], ◌∷◌, ◌++◌, length, get_or}
use Rattle.std.proofs.Common.{ap, arith, cond, inl, inr, nat_eq, refl, replicate, subst, sym}
use Rattle.std.proofs.lemmas.Bool.{cases_lt, eq-eqb, eqb-true, ne_eqb}
use Rattle.std.proofs.lemmas.List.{get_or-replicate, length_push}
use Rattle.board_text.specs.PlainBoard.{PlainBoard, IsBoard, places}
use Rattle.classes.specs.Numbers.{number_by_greatest}
use Rattle.classes.proofs.Cited.{is-below, size_of_sum, sum-suc, sum-zero, with-is}
use Rattle.positions.specs.Counts.{HasSize}
use Rattle.positions.specs.declared.value.Value.TheVariants.{Finite, Forever}
use Rattle.positions.proofs.Cited.{same_fact_size}
use Rattle.gap_values.specs.GapTables.{IsClosedBefore}
use Rattle.gap_values.specs.OpenGaps.{AreOpenCounts}
use Rattle.gap_values.specs.Inside.OpenWords.{open_below}
use Rattle.gap_values.specs.Inside.Sets.{ArePassed}
use Rattle.gap_values.specs.Inside.Words.{gap_table, AreRounds}
use Rattle.gap_values.specs.RoundWords.{round_of_word}
use Rattle.gap_values.proofs.RoundSteps.{IsAtRound, agree, changed, gap_count, gap_with, is-gap, last-round, new-words}
use Rattle.gap_values.proofs.Words.{before-from, before-to, round-finite, round-none}

-- ---- counting words

pub open-zero : (words : List ℕ) → open_below words 0 ≡ 0
open-zero words = sum-zero (λ index. cond (nat_eq (get_or words index 0) 4294967295) 1 0)

next_below : (words : List ℕ) (index : ℕ)
    → open_below words (index + 1) ≡ open_below words index + cond (nat_eq (get_or words index 0) 4294967295) 1 0
next_below words index =
    ap (open_below words) (let next : index + 1 ≡ suc index = omega arith in next)
    ∙ sum-suc index (λ at. cond (nat_eq (get_or words at 0) 4294967295) 1 0)

pub open-more : (words : List ℕ) (index : ℕ) → get_or words index 0 ≡ 4294967295
    → open_below words (index + 1) ≡ open_below words index + 1
open-more words index is =
    next_below words index
    ∙ ap (λ n. open_below words index + n) (ap {B = ℕ} (λ t. cond t 1 0) (eq-eqb (get_or words index 0) 4294967295 is))

pub open-same : (words : List ℕ) (index : ℕ) → get_or words index 0 ≢ 4294967295
    → open_below words (index + 1) ≡ open_below words index
open-same words index other =
    next_below words index
    ∙ ap (λ n. open_below words index + n)
    (ap {B = ℕ} (λ t. cond t 1 0) (ne_eqb (get_or words index 0) 4294967295 other))
    ∙ (let none : open_below words index + 0 ≡ open_below words index = omega arith in none)

-- ---- what a word says

-- a word that stands for a round is that round
one-round : (word round : ℕ) → round_of_word word ≡ Finite round → (word ≡ round) × (word < 4294967295)
one-round word round is = elim (cases_lt word 4294967295) [
  | inl low ↦ (let same : Finite word ≡ Finite round = sym (round-finite word low) ∙ is in cc, low)
  | inr high ↦ (let bad : ⊥ = (let same : Forever ≡ Finite round = sym (round-none word high) ∙ is in cc) in absurd bad)
]

-- ---- the counts of the rounds so far

-- the gap of a number isn't closed before a round
abbrev IsOpenAt : PlainBoard → List ℕ → ℕ → ℕ → Type 0
IsOpenAt board words round n =
    (n < gap_count board) × (IsClosedBefore (round_of_word (get_or words n 0)) round → ⊥)

-- the numbers of gaps that were open when the rounds from 1 up to this one began
pub record AreOpenSoFar (board : PlainBoard) (round : ℕ) (words counts : List ℕ) : Type 0 where
  pub size : length counts ≡ round
  pub each : (index : ℕ) → index < round → HasSize (IsOpenAt board words (suc index)) (get_or counts index 0)
  pub closing : (earlier : ℕ) → earlier < round
      → (n : ℕ) × (n < gap_count board) × (get_or words n 0 ≡ earlier)

pub none-so-far : (board : PlainBoard) (words : List ℕ) → AreOpenSoFar board 0 words []
none-so-far board words = record {
  size = refl;
  each = λ index low. absurd (omega (arith, low));
  closing = λ earlier low. absurd (omega (arith, low));
}

pushed_before : (counts : List ℕ) (count index : ℕ) → index < length counts
    → get_or (counts ++ count ∷ []) index 0 ≡ get_or counts index 0
pushed_before [] count index low = absurd (omega (arith, low))
pushed_before (first ∷ counts) count zero low = refl
pushed_before (first ∷ counts) count (suc index) low = pushed_before counts count index (omega (arith, low))

pushed_last : (counts : List ℕ) (count : ℕ) → get_or (counts ++ count ∷ []) (length counts) 0 ≡ count
pushed_last [] count = refl
pushed_last (first ∷ counts) count = pushed_last counts count

module _ (board : PlainBoard) (is_board : IsBoard board) (some : 2 ≤ board.pebbles) (round : ℕ)
    (old new : List ℕ) (sets : List (List ℕ)) (low : round < 4294967295) (at : IsAtRound board round old sets)
    (passed : ArePassed board sets round 0 0 (gap_count board) old new) (counts : List ℕ)
    (so_far : AreOpenSoFar board round old counts) where
  size_new : length new ≡ gap_count board
  size_new = passed.same_length ∙ at.size

  -- what is open before a round that was begun isn't changed by this one
  kept_open : (index n : ℕ) → index < round → IsOpenAt board old (suc index) n ↔ IsOpenAt board new (suc index) n
  kept_open index n before =
      let same = agree board is_board some round old new sets low at passed n (suc index) (omega (arith, before)) in (
        λ still. (still.0, λ closed. still.1 (same.1 closed)),
        λ still. (still.0, λ closed. still.1 (same.0 closed)),
      )

  kept_count : (index : ℕ) → index < round → HasSize (IsOpenAt board new (suc index)) (get_or counts index 0)
  kept_count index before =
      same_fact_size (IsOpenAt board old (suc index)) (IsOpenAt board new (suc index)) (get_or counts index 0)
      (λ n. kept_open index n before) (so_far.each index before)

  -- a gap that was closed in a round still is
  kept_closing : (earlier : ℕ) → earlier < round
      → (n : ℕ) × (n < gap_count board) × (get_or new n 0 ≡ earlier)
  kept_closing earlier before =
      let was = so_far.closing earlier before in (
        was.0,
        was.1,
        elim (changed board is_board some round old new sets low at passed was.0) [
          | inl same ↦ same ∙ was.2
          | inr closes ↦ absurd (omega (arith, before, low, was.2, closes.0))
        ],
      )

  -- the open words are those of the gaps that aren't closed before the next round
  open_now : HasSize (IsOpenAt board new (suc round)) (open_below new (length new))
  open_now = size_of_sum (IsOpenAt board new (suc round)) (λ n. nat_eq (get_or new n 0) 4294967295) (length new) (λ n. (
    λ still. (
      omega (arith, still.0, size_new),
      elim (new-words board is_board some round old new sets low at passed n still.0) [
        | inl less ↦ absurd (still.1 (before-from (get_or new n 0) (suc round) (omega (arith, less))
            (omega (arith, less, low))))
        | inr none ↦ eq-eqb (get_or new n 0) 4294967295 none
      ],
    ),
    λ is. (
      omega (arith, is.0, size_new),
      λ closed.
          let under = before-to (get_or new n 0) (suc round) closed in
          omega (arith, under.1, eqb-true (get_or new n 0) 4294967295 is.1),
    ),
  ))

  pub one-more : (n : ℕ) × (n < gap_count board) × (get_or new n 0 ≡ round)
      → AreOpenSoFar board (round + 1) new (counts ++ open_below new (length new) ∷ [])
  one-more some_closed = record {
    size = (let pushed = length_push counts (open_below new (length new)) in omega (arith, pushed, so_far.size));
    each = λ index before. elim (cases_lt index round) [
      | inl earlier ↦
          subst (HasSize (IsOpenAt board new (suc index)))
          (sym (pushed_before counts (open_below new (length new)) index (omega (arith, earlier, so_far.size))))
          (kept_count index earlier)
      | inr now ↦
          let same : round ≡ index = omega (arith, before, now) in
          subst (λ k. HasSize (IsOpenAt board new (suc k))
          (get_or (counts ++ open_below new (length new) ∷ []) k 0)) same
          (subst (HasSize (IsOpenAt board new (suc round)))
          (sym (ap (λ k. get_or (counts ++ open_below new (length new) ∷ []) k 0) (sym so_far.size)
          ∙ pushed_last counts (open_below new (length new)))) open_now)
    ];
    closing = λ earlier before. elim (cases_lt earlier round) [
      | inl less ↦ kept_closing earlier less
      | inr now ↦ (
        some_closed.0,
        some_closed.1,
        (let same : round ≡ earlier = omega (arith, before, now) in some_closed.2 ∙ same),
      )
    ];
  }

  -- no gap closed: the counts are all
  pub all-rounds : ((n : ℕ) → n < gap_count board → get_or new n 0 ≢ round) → AreOpenCounts board counts
  all-rounds none_closed = record {
    closed = gap_table new;
    is_table = (last-round board is_board some round old new sets low at passed none_closed).table;
    each = λ index before.
        same_fact_size (IsOpenAt board new (suc index))
        (λ n. (n < gap_count board) × (IsClosedBefore (gap_table new (gap_with board n)) (suc index) → ⊥))
        (get_or counts index 0)
        (λ n. (
          λ still. (
            still.0,
            λ closed. still.1 (subst (λ w. IsClosedBefore (round_of_word w) (suc index))
                (own_word n still.0) closed),
          ),
          λ still. (
            still.0,
            λ closed. still.1 (subst (λ w. IsClosedBefore (round_of_word w) (suc index))
                (sym (own_word n still.0)) closed),
          ),
        )) (kept_count index (omega (arith, before, so_far.size)));
    rounds = λ earlier. (
      λ before.
          let closes = kept_closing earlier (omega (arith, before, so_far.size)) in (
            gap_with board closes.0,
            is-gap board is_board some round old new sets low at passed closes.0 closes.1,
            ap round_of_word (own_word closes.0 closes.1 ∙ closes.2)
                ∙ round-finite earlier (omega (arith, before, so_far.size, low)),
          ),
      λ told.
          let n : ℕ = number_by_greatest told.0 in
          let n_low : n < gap_count board = is-below (places board) (board.pebbles - 1) told.0 told.1 in
          let word = one-round (get_or new n 0) earlier told.2 in
          elim (new-words board is_board some round old new sets low at passed n n_low) [
            | inl less ↦ (let differs = none_closed n n_low in
                omega (arith, less, word.0, so_far.size, differs))
            | inr none ↦ absurd (omega (arith, none, word.1))
          ],
    );
  }
    where
      own_word : (n : ℕ) → n < gap_count board → get_or new (number_by_greatest (gap_with board n)) 0 ≡ get_or new n 0
      own_word n n_low = ap (λ k. get_or new k 0) (with-is (places board) (board.pebbles - 1) n n_low).number_is

-- ---- one pebble: its gap never closes

pub lone-counts : (board : PlainBoard) (words : List ℕ) → words ≡ replicate (gap_count board) 4294967295
    → AreRounds board words → AreOpenCounts board []
lone-counts board words all_open rounds = record {
  closed = gap_table words;
  is_table = rounds.table;
  each = λ index before. absurd (omega (arith, before));
  rounds = λ round. (
    λ before. absurd (omega (arith, before)),
    λ told.
        let n : ℕ = number_by_greatest told.0 in
        let n_low : n < gap_count board = is-below (places board) (board.pebbles - 1) told.0 told.1 in
        let open_word : get_or words n 0 ≡ 4294967295 =
        ap (λ l. get_or l n 0) all_open ∙ get_or-replicate {A = ℕ} (gap_count board) n 4294967295 0 n_low in
        absurd (omega (arith, open_word, (one-round (get_or words n 0) round told.2).1)),
  );
}
