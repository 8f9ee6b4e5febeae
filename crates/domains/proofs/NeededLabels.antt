-- Processes that last for ever on a board that is one way need many labels.
use Rattle.std.proofs.Common.{◌≡◌, ℕ, zero, suc, ◌+◌, ◌-◌, ◌*◌, ◌^◌, ◌<◌, ◌≤◌}
use Rattle.std.proofs.Common.{List, [], ◌∷◌, length, refl, subst, arith, inl, inr}
use Rattle.std.proofs.lemmas.Nat.{pow_pos}
use Rattle.board_text.specs.PlainBoard.{PlainBoard, Dominates, IsAntisymmetric}
use Rattle.positions.specs.Value.{HasValue}
use Rattle.positions.specs.declared.value.Value.{Value}
use Rattle.positions.specs.declared.value.Value.TheVariants.{Finite, Forever}
use Rattle.positions.proofs.Cited.{beats_or_not}
use Rattle.domains.proofs.Choices.{one_or, of_one_or}
use Rattle.domains.proofs.DecidedChains.{IsDecided, lasting_or_not}
use Rattle.domains.proofs.EachValue.{each_has_value}
use Rattle.domains.proofs.LastingChains.{LastingChain, chain_answered, chain_without, unheld}
use Rattle.domains.proofs.Totals.{total, total_le, total_ones, total_has, AreOneWay, many_weigh}

-- ---- the labels in used are counted

module _ (board : PlainBoard) (one_way : IsAntisymmetric board) (Use : ℕ → Type 0)
    (use_or_not : (label : ℕ) → IsDecided (Use label)) where
  abbrev Both : ℕ → ℕ → Type 0
  Both x y = Use x × Use y × Dominates board x y

  both_or_not : (x y : ℕ) → IsDecided (Both x y)
  both_or_not x y =
      elim (use_or_not x) [
        | inr not ↦ inr (λ both. not both.0)
        | inl first ↦ elim (use_or_not y) [
          | inr not ↦ inr (λ both. not both.1)
          | inl second ↦ elim (beats_or_not board x y) [
            | inr not ↦ inr (λ both. not both.2)
            | inl beats ↦ inl (first, second, beats)
          ]
        ]
      ]

  weighs : ℕ → ℕ
  weighs label = one_or (use_or_not label) 1 0

  goes : ℕ → ℕ → ℕ
  goes x y = one_or (both_or_not x y) 1 0

  weighs_one : (label : ℕ) → Use label → 1 ≤ weighs label
  unfolding weighs
  weighs_one label used =
      of_one_or (λ n. 1 ≤ n) (use_or_not label) 1 0 (λ _. omega arith) (λ not. absurd (not used))

  goes_one : (x y : ℕ) → Both x y → 1 ≤ goes x y
  unfolding goes
  goes_one x y both = of_one_or (λ n. 1 ≤ n) (both_or_not x y) 1 0 (λ _. omega arith) (λ not. absurd (not both))

  weighs_at_most : (label most : ℕ) → (Use label → 1 ≤ most) → weighs label ≤ most
  unfolding weighs
  weighs_at_most label most some =
      of_one_or (λ n. n ≤ most) (use_or_not label) 1 0 (λ used. some used) (λ _. omega arith)

  times_weighs : (d label most : ℕ) → (Use label → d ≤ most) → d * weighs label ≤ most
  unfolding weighs
  times_weighs d label most some =
      of_one_or (λ n. d * n ≤ most) (use_or_not label) 1 0
      (λ used. let few : d ≤ most = some used in omega (arith, few)) (λ _. omega arith)

  are_one_way : AreOneWay weighs goes
  unfolding goes
  are_one_way = record {
    unit = λ x. weighs_at_most x 1 (λ _. omega arith);
    itself = λ x. of_one_or (λ n. n ≡ 0) (both_or_not x x) 1 0 (λ both. absurd (one_way x x both.2 both.2)) (λ _. refl);
    either = λ x y.
        of_one_or (λ n. n + one_or (both_or_not y x) 1 0 ≤ weighs y) (both_or_not x y) 1 0
        (λ both.
        let some : 1 ≤ weighs y = weighs_one y both.1 in
        of_one_or (λ n. 1 + n ≤ weighs y) (both_or_not y x) 1 0
        (λ back. absurd (one_way x y both.2 back.2)) (λ _. omega (arith, some)))
        (λ _. of_one_or (λ n. 0 + n ≤ weighs y) (both_or_not y x) 1 0
        (λ back. let some : 1 ≤ weighs y = weighs_one y back.0 in omega (arith, some)) (λ _. omega arith));
  }

  -- if each label in used is beaten by this many in used, more than twice as many are in used
  many_used : (d : ℕ) (weight : ℕ → ℕ) (some : ℕ) → Use some → some < board.labels
      → ((label : ℕ) → Use label → d ≤ total (λ x. goes x label) board.labels)
      → ((label : ℕ) → Use label → 1 ≤ weight label)
      → 2 * d < total weight board.labels
  many_used d weight some used low each heavy =
      let one : 1 ≤ weighs some = weighs_one some used in
      let there : weighs some ≤ total weighs board.labels = total_has weighs board.labels some low in
      let more : 2 * d < total weighs board.labels
      = many_weigh weighs goes are_one_way board.labels d
      (λ label _. times_weighs d label (total (λ x. goes x label) board.labels) (each label))
      (omega (arith, one, there)) in
      let few : total weighs board.labels ≤ total weight board.labels
      = total_le weighs weight board.labels (λ label _. weighs_at_most label (weight label) (heavy label)) in
      omega (arith, more, few)

twice_power : (count : ℕ) → 2 ^ suc count ≡ 2 * 2 ^ count
twice_power count = omega arith

-- If so many pebbles may still be put on a chain, almost as many labels may come next on it as there
-- are sets of these pebbles.
needed : (board : PlainBoard) (few : ℕ) (chain : List ℕ) (weight : ℕ → ℕ) → IsAntisymmetric board
    → LastingChain board few chain
    → ((label then : ℕ) → suc then ≡ few → LastingChain board then (label ∷ chain) → 1 ≤ weight label)
    → 2 ^ few ≤ suc (total weight board.labels)
needed board zero chain weight one_way lasting heavy = omega arith
needed board (suc few) chain weight one_way lasting heavy =
    let Next : ℕ → Type 0 = λ label. LastingChain board few (label ∷ chain) in
    let next_or_not : (label : ℕ) → IsDecided (LastingChain board few (label ∷ chain))
    = λ label. lasting_or_not board few (label ∷ chain) in
    let some = chain_answered board few chain lasting in
    let power : 0 < 2 ^ few = pow_pos few in
    let twice : 2 ^ suc few ≡ 2 * 2 ^ few = twice_power few in
    let more : 2 * (2 ^ few - 1) < total weight board.labels
    = many_used board one_way Next next_or_not (2 ^ few - 1) weight some.0 some.3 some.1
    (λ label next.
    let goes_to : ℕ → ℕ = λ x. goes board one_way Next next_or_not x label in
    let enough : 2 ^ few ≤ suc (total goes_to board.labels)
    = needed board few (label ∷ chain) goes_to one_way next (λ other then is above.
    goes_one board one_way Next next_or_not other label (
      subst (λ n. LastingChain board n (other ∷ chain)) is
          (chain_without board then (other ∷ label ∷ chain) 1 (omega arith) above),
      next,
      above.chained.beat 0 1 0 (omega arith) (omega arith),
    )) in
    omega (arith, enough))
    (λ label next. heavy label few refl next) in
    omega (arith, power, twice, more)

pub labels_needed : (board : PlainBoard) (configuration : List ℕ) → IsAntisymmetric board
    → length configuration ≡ board.pebbles → HasValue board configuration Forever
    → 2 ^ board.pebbles ≤ suc board.labels
labels_needed board configuration one_way long lasts =
    let all : total (λ label. 1) board.labels ≡ board.labels = total_ones board.labels in
    let enough : 2 ^ board.pebbles ≤ suc (total (λ label. 1) board.labels)
    = needed board board.pebbles [] (λ label. 1) one_way (unheld board configuration long lasts)
    (λ label then is next. omega arith) in
    omega (arith, all, enough)

-- with fewer labels each start ends
pub fewer_end : (board : PlainBoard) (configuration : List ℕ) → IsAntisymmetric board
    → length configuration ≡ board.pebbles → suc board.labels < 2 ^ board.pebbles
    → (number : ℕ) × HasValue board configuration (Finite number)
fewer_end board configuration one_way long few =
    let found = each_has_value board configuration long in
    finite_of found.0 found.1
  where
    finite_of : (value : Value) → HasValue board configuration value
        → (number : ℕ) × HasValue board configuration (Finite number)
    finite_of (Finite number) has = (number, has)
    finite_of Forever lasts =
        let enough : 2 ^ board.pebbles ≤ suc board.labels = labels_needed board configuration one_way long lasts in
        absurd (omega (arith, few, enough))
