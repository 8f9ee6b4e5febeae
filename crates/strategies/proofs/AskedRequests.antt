-- The best request as the first whose best answer leaves the least, as the pebbles are gone through.
use Rattle.std.proofs.Common.{◌≡◌, ℕ, suc, ◌+◌, ◌<◌, ◌≤◌, List, Option, None, Some, inl, inr, sym, subst, arith}
use Rattle.board_text.specs.PlainBoard.{PlainBoard, IsConfiguration}
use Rattle.positions.specs.declared.value.Value.{Value}
use Rattle.positions.specs.declared.value.Value.TheVariants.{Finite, Forever}
use Rattle.positions.specs.Counts.{IsSmallest}
use Rattle.positions.specs.Value.{HasValue}
use Rattle.gap_values.specs.declared.value_table.Best.{Best}
use Rattle.strategies.specs.Best.{IsBestFor, IsBestRequestIfAny, IsLess, LowersValue}
use Rattle.strategies.specs.Inside.Answers.{value_with}
use Rattle.strategies.specs.Inside.RankMoves.{answered_with, one_more}
use Rattle.strategies.proofs.Answers.{less-with, low-value, not-less-with}
use Rattle.strategies.proofs.LeastValues.{IsLeastBelow, least-kept, least-less, least-value}
use Rattle.strategies.proofs.LoweringRequests.{LeadsBelow, forever_lowers_none, leads_from, lowers_first, lowers_from}
use Rattle.strategies.proofs.LoweringRequests.{request_none}
use Rattle.strategies.proofs.ValueOrder.{IsLess-trans, cases_value}

-- the best answer to a request of the pebble leaves the value
abbrev Leaves : PlainBoard → List ℕ → Value → ℕ → Type 0
Leaves board held value pebble =
    (best : Option Best) × IsBestFor board held pebble best × (value ≡ answered_with best)

-- it leaves more
abbrev LeavesMore : PlainBoard → List ℕ → Value → ℕ → Type 0
LeavesMore board held value pebble =
    (best : Option Best) × IsBestFor board held pebble best × IsLess value (answered_with best)

-- the pebble is the first below a bound to whose request the best answer leaves the number; none if no number is left
abbrev pub IsAsked : PlainBoard → List ℕ → ℕ → ℕ → Option ℕ → Type 0
IsAsked board held bound least None = value_with least ≡ Forever
IsAsked board held bound least (Some pebble) =
    (pebble < bound) × (least < 4294967295) × Leaves board held (value_with least) pebble
    × ((other : ℕ) → other < pebble → LeavesMore board held (value_with least) other)

-- the least that the best answers to requests of the pebbles below a bound leave, and the first pebble with it
pub record IsAskedBelow (board : PlainBoard) (held : List ℕ) (bound least : ℕ) (asked : Option ℕ) : Type 0 where
  pub few : least ≤ 4294967295
  pub is_least : IsLeastBelow board held bound (value_with least)
  pub is_asked : IsAsked board held bound least asked

module _ (board : PlainBoard) (held : List ℕ) where
  module _ (pebble least : ℕ) (asked : Option ℕ) (was : IsAskedBelow board held pebble least asked) (best : Option Best)
      (is : IsBestFor board held pebble best) (requests : ℕ) (requests_is : value_with requests ≡ answered_with best)
    where
      -- an answer that leaves less
      pub asked-less : requests < least → IsAskedBelow board held (pebble + 1) requests (Some pebble)
      asked-less less = record {
        few = omega (arith, was.few, less);
        is_least = subst (IsLeastBelow board held (pebble + 1)) (sym requests_is)
            (least-less board held pebble (value_with least) best was.is_least is
            (subst (λ v. IsLess v (value_with least)) requests_is below));
        is_asked = (
          omega arith,
          omega (arith, was.few, less),
          (best, is, requests_is),
          λ other low. let left = was.is_least.least other low in
              (left.0, left.1, more (answered_with left.0) left.2),
        );
      }
        where
          below : IsLess (value_with requests) (value_with least)
          below = less-with requests least was.few less

          more : (other : Value) → ¬ IsLess other (value_with least) → IsLess (value_with requests) other
          more other not = elim (cases_value (value_with requests) other) [
            | inl above ↦ above
            | inr (inl same) ↦ absurd (not (subst (λ v. IsLess v (value_with least)) same below))
            | inr (inr under) ↦
                absurd (not (IsLess-trans other (value_with requests) (value_with least) under below))
          ]

      -- one that doesn't
      pub asked-kept : least ≤ requests → IsAskedBelow board held (pebble + 1) least asked
      asked-kept not = record {
        few = was.few;
        is_least = least-kept board held pebble (value_with least) best was.is_least is
            (subst (λ v. ¬ IsLess v (value_with least)) requests_is (not-less-with requests least not));
        is_asked = by asked was.is_asked;
      }
        where
          by : (asked : Option ℕ) → IsAsked board held pebble least asked
              → IsAsked board held (pebble + 1) least asked
          by None same = same
          by (Some first) known =
              ((let low : first < pebble = known.0 in omega arith), known.1, known.2, known.3)

  -- it is the best request
  pub asked-best : (least : ℕ) (asked : Option ℕ) → IsConfiguration board held
      → IsAskedBelow board held board.pebbles least asked → IsBestRequestIfAny board held asked
  asked-best least asked is found = by asked found.is_asked
    where
      has : HasValue board held (value_with least)
      has = least-value board held (value_with least) found.is_least

      leads : (best : Option Best) → Finite least ≡ answered_with best → LeadsBelow best (Finite least)
      leads None same = tt
      leads (Some best) same = after best.value same
        where
          after : (value : Value) → Finite least ≡ one_more value → IsLess value (Finite least)
          after Forever same = absurd cc
          after (Finite number) same =
              let one : least ≡ suc number = cc in
              omega (arith, one)

      not_lower : (best : Option Best) → IsLess (Finite least) (answered_with best)
          → LeadsBelow best (Finite least) → ⊥
      not_lower None more lead = omega (arith, more)
      not_lower (Some best) more lead = after best.value more lead
        where
          after : (value : Value) → IsLess (Finite least) (one_more value) → IsLess value (Finite least) → ⊥
          after Forever more lead = lead
          after (Finite number) more lead = omega (arith, more, lead)

      by : (asked : Option ℕ) → IsAsked board held board.pebbles least asked → IsBestRequestIfAny board held asked
      by None forever = forever_lowers_none board held is (subst (HasValue board held) forever has)
      by (Some pebble) known = record { best = best; none = request_none board held pebble is best }
        where
          finite : value_with least ≡ Finite least
          finite = low-value least known.1

          has_number : HasValue board held (Finite least)
          has_number = subst (HasValue board held) finite has

          lowers : LowersValue board held pebble
          lowers = lowers_from board held pebble (Finite least) has_number known.2.0 known.2.1 known.0
              (leads known.2.0 (subst (λ v. v ≡ answered_with known.2.0) finite known.2.2))

          best : IsSmallest (LowersValue board held) (Some pebble)
          best = lowers_first board held pebble
              (λ other low lowering. let more = known.3 other low in
              not_lower more.0 (subst (λ v. IsLess v (answered_with more.0)) finite more.2)
              (leads_from board held other (Finite least) has_number more.0 more.1 lowering))
              lowers
