-- The nested board of a level is the product of the three-cycle and that of one level less.
use Rattle.std.proofs.Common.{◌≡◌, ◌↔◌, ℕ, zero, suc, ◌+◌, ◌-◌, ◌*◌, ◌/◌, ◌%◌, ◌^◌, ◌<◌, ◌≤◌, ◌⊎◌, List, [], ◌∷◌, take}
use Rattle.std.proofs.Common.{get_or, refl, sym, ◌∙◌, ap, subst, arith, inl, inr, div-lt_iff_lt-mul, mod-lt}
use Rattle.std.proofs.Math.Nat.{one-le-pow, pow-succ'}
use Rattle.std.specs.Prelude.{Contains}
use Rattle.std.proofs.lemmas.Bool.{cases_eq}
use Rattle.board_text.specs.PlainBoard.{PlainBoard, plain_board, AreLabels, Dominates}
use Rattle.nested_cycles.specs.Words.{word_of}
use Rattle.nested_cycles.specs.Domination.{WordDominates}
use Rattle.nested_cycles.proofs.Cited.{contains_cases, contains_here, contains_none, from_one_copy, in_one_copy}
use Rattle.nested_cycles.proofs.Cited.{of_two_copies}
use Rattle.player.specs.NestedPlay.{IsNestedPlay}
use Rattle.domains.specs.Circles.{IsCircle}
use Rattle.domains.specs.Products.{IsProduct}
use Rattle.domains.proofs.Circles.{circle_exists}
use Rattle.domains.proofs.ProductData.{Wins, product_board}

-- if the first digits differ, they decide
first_decides : (digit other_digit : ℕ) (word other : List ℕ) → (digit ≡ other_digit → ⊥)
    → WordDominates (digit ∷ word) (other_digit ∷ other) → digit ≡ (other_digit + 1) % 3
first_decides digit other_digit word other differs dominates =
    by dominates.index dominates.same_before dominates.next_there
  where
    by : (place : ℕ) → take place (digit ∷ word) ≡ take place (other_digit ∷ other)
        → get_or (digit ∷ word) place 0 ≡ (get_or (other_digit ∷ other) place 0 + 1) % 3
        → digit ≡ (other_digit + 1) % 3
    by zero same next = next
    by (suc place) same next = absurd (differs (ap (λ (l : List ℕ). get_or l 0 0) same))

-- the domination of two words, by their first digits and their rests
abbrev Splits : ℕ → ℕ → ℕ → Type 0
Splits count x y =
    (x / 3 ^ count ≡ (y / 3 ^ count + 1) % 3)
    ⊎ ((x / 3 ^ count ≡ y / 3 ^ count)
    × WordDominates (word_of count (x % 3 ^ count)) (word_of count (y % 3 ^ count)))

splits : (count x y : ℕ) → WordDominates (word_of (suc count) x) (word_of (suc count) y) ↔ Splits count x y
unfolding word_of
splits count x y = (
  λ dominates. elim (cases_eq (x / 3 ^ count) (y / 3 ^ count)) [
    | inl same ↦ inr (
      same,
      from_one_copy (y / 3 ^ count) (word_of count (x % 3 ^ count)) (word_of count (y % 3 ^ count))
          (subst (λ (d : ℕ). WordDominates (d ∷ word_of count (x % 3 ^ count))
          (y / 3 ^ count ∷ word_of count (y % 3 ^ count)))
          same dominates),
    )
    | inr differs ↦ inl (first_decides (x / 3 ^ count) (y / 3 ^ count) (word_of count (x % 3 ^ count))
        (word_of count (y % 3 ^ count)) differs dominates)
  ],
  λ says. elim says [
    | inl next ↦ of_two_copies (x / 3 ^ count) (y / 3 ^ count) (word_of count (x % 3 ^ count))
        (word_of count (y % 3 ^ count)) next
    | inr part ↦ subst (λ (d : ℕ). WordDominates (d ∷ word_of count (x % 3 ^ count))
        (y / 3 ^ count ∷ word_of count (y % 3 ^ count)))
        (sym part.0)
        (in_one_copy (y / 3 ^ count) (word_of count (x % 3 ^ count)) (word_of count (y % 3 ^ count)) part.1)
  ],
)

-- each label of the three-cycle dominates just the one before it
pub one_step : (board : PlainBoard) → IsCircle 3 (1 ∷ []) board → (x y : ℕ) → x < 3 → y < 3
    → Dominates board x y ↔ (x ≡ (y + 1) % 3)
one_step board circle x y x_low y_low = (
  λ beats. elim (contains_cases 1 [] ((x + 3 - y) % 3) ((circle.beats x y x_low y_low).0 beats)) [
    | inl one ↦ omega (arith, one, x_low, y_low)
    | inr none ↦ absurd (contains_none ((x + 3 - y) % 3) none)
  ],
  λ next.
      let one : 1 ≡ (x + 3 - y) % 3 = omega (arith, next, x_low, y_low) in
      (circle.beats x y x_low y_low).1 (subst (Contains (1 ∷ [])) one (contains_here 1 [])),
)

-- a label beats another in the product exactly if it does in the nested board
wins_nested : (count : ℕ) (cycle inner : PlainBoard) → IsCircle 3 (1 ∷ []) cycle → IsNestedPlay (suc count) inner
    → (x y : ℕ) → x < 3 * 3 ^ count → y < 3 * 3 ^ count
    → Wins cycle inner x y ↔ WordDominates (word_of (suc count) x) (word_of (suc count) y)
wins_nested count cycle inner circle of_inner x y x_low y_low =
    let inner_digits : suc count - 1 ≡ count = omega arith in
    let size : inner.labels ≡ 3 ^ count = of_inner.labels ∙ ap (λ (n : ℕ). 3 ^ n) inner_digits in
    let some : 1 ≤ 3 ^ count = one-le-pow count 3 (omega arith) in
    let x_copy : x / 3 ^ count < 3 = (div-lt_iff_lt-mul some).1 x_low in
    let y_copy : y / 3 ^ count < 3 = (div-lt_iff_lt-mul some).1 y_low in
    let parts : AreLabels inner.labels (x % 3 ^ count, y % 3 ^ count) = (
      subst (λ n. x % 3 ^ count < n) (sym size) (mod-lt x some),
      subst (λ n. y % 3 ^ count < n) (sym size) (mod-lt y some),
    ) in
    let within = subst (λ (n : ℕ). Dominates inner (x % 3 ^ count) (y % 3 ^ count)
    ↔ WordDominates (word_of n (x % 3 ^ count)) (word_of n (y % 3 ^ count))) inner_digits
    (of_inner.beats (x % 3 ^ count) (y % 3 ^ count) parts) in
    let between = one_step cycle circle (x / 3 ^ count) (y / 3 ^ count) x_copy y_copy in
    let words = splits count x y in
    subst (λ (n : ℕ). (Dominates cycle (x / n) (y / n) ⊎ ((x / n ≡ y / n) × Dominates inner (x % n) (y % n)))
    ↔ WordDominates (word_of (suc count) x) (word_of (suc count) y)) (sym size) (
      λ says. words.1 (elim says [
        | inl beats ↦ inl (between.0 beats)
        | inr part ↦ inr (part.0, within.0 part.1)
      ]),
      λ dominates. elim (words.0 dominates) [
        | inl next ↦ inl (between.1 next)
        | inr part ↦ inr (part.0, within.1 part.1)
      ],
    )

pub nested_is_product : (count : ℕ) (cycle inner board : PlainBoard) → IsCircle 3 (1 ∷ []) cycle
    → IsNestedPlay (suc count) inner → IsNestedPlay (suc (suc count)) board → IsProduct cycle inner board
nested_is_product count cycle inner board circle of_inner of_board =
    let inner_digits : suc count - 1 ≡ count = omega arith in
    let digits : suc (suc count) - 1 ≡ suc count = omega arith in
    let size : inner.labels ≡ 3 ^ count = of_inner.labels ∙ ap (λ (n : ℕ). 3 ^ n) inner_digits in
    let labels : board.labels ≡ 3 * 3 ^ count
    = of_board.labels ∙ (ap (λ (n : ℕ). 3 ^ n) digits ∙ pow-succ' 3 count) in
    let some : 1 ≤ 3 ^ count = one-le-pow count 3 (omega arith) in
    record {
      labels = labels ∙ (ap (λ (n : ℕ). n * 3 ^ count) (sym circle.labels_are)
          ∙ ap (λ (n : ℕ). cycle.labels * n) (sym size));
      some = omega (arith, size, some);
      beats = λ x y x_low y_low.
          let nested = subst (λ (n : ℕ). Dominates board x y ↔ WordDominates (word_of n x) (word_of n y)) digits
          (of_board.beats x y (x_low, y_low)) in
          let wins = wins_nested count cycle inner circle of_inner x y (subst (λ n. x < n) labels x_low)
          (subst (λ n. y < n) labels y_low) in
          (λ beats. wins.1 (nested.0 beats), λ says. nested.1 (wins.0 says));
    }

-- ---- there is a board of each level

product_is_nested : (count : ℕ) (cycle inner board : PlainBoard) → IsCircle 3 (1 ∷ []) cycle
    → IsNestedPlay (suc count) inner → IsProduct cycle inner board → board.pebbles ≡ suc (suc count)
    → IsNestedPlay (suc (suc count)) board
product_is_nested count cycle inner board circle of_inner product pebbles =
    let inner_digits : suc count - 1 ≡ count = omega arith in
    let digits : suc (suc count) - 1 ≡ suc count = omega arith in
    let size : inner.labels ≡ 3 ^ count = of_inner.labels ∙ ap (λ (n : ℕ). 3 ^ n) inner_digits in
    let labels : board.labels ≡ 3 * 3 ^ count
    = product.labels ∙ (ap (λ (n : ℕ). n * inner.labels) circle.labels_are ∙ ap (λ (n : ℕ). 3 * n) size) in
    record {
      labels = labels ∙ (sym (pow-succ' 3 count) ∙ ap (λ (n : ℕ). 3 ^ n) (sym digits));
      pebbles = omega (arith, pebbles);
      beats = λ x y are. subst (λ (n : ℕ). Dominates board x y ↔ WordDominates (word_of n x) (word_of n y)) (sym digits)
          (let wins = wins_nested count cycle inner circle of_inner x y (subst (λ n. x < n) labels are.0)
          (subst (λ n. y < n) labels are.1) in
          let beats = product.beats x y are.0 are.1 in
          (λ b. wins.0 (beats.0 b), λ d. beats.1 (wins.1 d)));
    }

lone_is_nested : (board : PlainBoard) → board.labels ≡ 1 → board.pebbles ≡ 1 → board.pairs ≡ [] → IsNestedPlay 1 board
unfolding word_of
lone_is_nested board labels pebbles none = record {
  labels = labels;
  pebbles = omega (arith, pebbles);
  beats = λ x y are. (
    λ beats. absurd (contains_none (x, y) (subst (λ (all : List (ℕ × ℕ)). Contains all (x, y)) none beats)),
    λ nested. absurd (omega (arith, nested.inside)),
  );
}

pub record Exists (count : ℕ) : Type 0 where
  pub board : PlainBoard
  pub nested : IsNestedPlay (suc count) board
  pub pebbles : board.pebbles ≡ suc count

pub exists : (count : ℕ) → Exists count
exists zero =
    let one = plain_board 1 1 [] [] in
    record { board = one; nested = lone_is_nested one refl refl refl; pebbles = refl }
exists (suc count) =
    let before = exists count in
    let cycle = circle_exists 3 2 (1 ∷ []) [] in
    let inner_digits : suc count - 1 ≡ count = omega arith in
    let size : before.board.labels ≡ 3 ^ count = before.nested.labels ∙ ap (λ (n : ℕ). 3 ^ n) inner_digits in
    let power : 1 ≤ 3 ^ count = one-le-pow count 3 (omega arith) in
    let some : 0 < before.board.labels = omega (arith, size, power) in
    let found = product_board cycle.0 before.board (suc (suc count)) [] some in
    record {
      board = found.0;
      nested = product_is_nested count cycle.0 before.board found.0 cycle.1 before.nested found.1 found.2;
      pebbles = found.2;
    }
