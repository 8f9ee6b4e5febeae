-- The requests that lower the value, by their best answers.
use Rattle.std.proofs.Common.{◌≡◌, ℕ, ◌<◌, ◌↔◌, List, Option, None, Some, inl, inr, refl, sym, subst}
use Rattle.board_text.specs.PlainBoard.{PlainBoard, IsConfiguration}
use Rattle.positions.specs.declared.value.Value.{Value}
use Rattle.positions.specs.declared.value.Value.TheVariants.{Finite, Forever}
use Rattle.positions.specs.Counts.{IsSmallest}
use Rattle.positions.specs.Game.{moved}
use Rattle.positions.specs.Value.{HasValue}
use Rattle.positions.proofs.Cited.{some_value, same_value}
use Rattle.gap_values.specs.BestOfGap.{IsFirstBelow}
use Rattle.gap_values.specs.declared.value_table.Best.{Best}
use Rattle.strategies.specs.Best.{IsLess, HasSmallerValue, HasNoGreaterValue, LowersValue, IsBestFor}
use Rattle.strategies.specs.Best.{IsBestRequestIfAny}
use Rattle.strategies.proofs.GapMembers.{gap-of-lowers, lowers-of-gap}
use Rattle.strategies.proofs.ValueOrder.{cases_value, IsLess-trans}
use Rattle.strategies.proofs.BestRequests.{first_is_smallest, best_request, not_lowered}

-- the best answer leads to a smaller value than this one, or there is none
abbrev pub LeadsBelow : Option Best → Value → Type 0
LeadsBelow (Some best) value = IsLess best.value value
LeadsBelow None value = Unit {0}

module _ (board : PlainBoard) (configuration : List ℕ) (pebble : ℕ) (value : Value)
    (has : HasValue board configuration value) where
  less_too : (to : List ℕ) (best : Best) → HasValue board (moved configuration pebble best.label) best.value
      → IsLess best.value value
      → HasNoGreaterValue board to (moved configuration pebble best.label) → HasSmallerValue board to configuration
  less_too to best has_best less most =
      let same : most.bound ≡ best.value =
      same_value board (moved configuration pebble best.label) most.bound best.value most.of_second has_best in
      record {
        smaller = most.value;
        greater = value;
        of_first = most.of_first;
        of_second = has;
        less = elim (cases_value most.value best.value) [
          | inl below ↦ IsLess-trans most.value best.value value below less
          | inr (inl equal) ↦ subst (λ (v : Value). IsLess v value) (sym equal) less
          | inr (inr above) ↦ absurd (most.not_greater (subst (λ (v : Value). IsLess v most.value) (sym same) above))
        ];
      }

  pub lowers_from : (best : Option Best) → IsBestFor board configuration pebble best → pebble < board.pebbles
      → LeadsBelow best value
      → LowersValue board configuration pebble
  lowers_from None none is_pebble below =
      record { is_pebble = is_pebble; lowers = λ label legal. absurd (none label legal) }
  lowers_from (Some best) is is_pebble below = record {
    is_pebble = is_pebble;
    lowers = λ label legal. less_too (moved configuration pebble label) best is.1 below (is.0.0.greatest label legal);
  }

  pub leads_from : (best : Option Best) → IsBestFor board configuration pebble best
      → LowersValue board configuration pebble → LeadsBelow best value
  leads_from None none lowering = tt
  leads_from (Some best) is lowering =
      let less = lowering.lowers best.label is.0.0.legal in
      let low : less.smaller ≡ best.value =
      same_value board (moved configuration pebble best.label) less.smaller best.value less.of_first is.1 in
      let high : less.greater ≡ value = same_value board configuration less.greater value less.of_second has in
      subst (λ (v : Value). IsLess v value) low (subst (IsLess less.smaller) high less.less)

-- a configuration that no request lowers lasts forever
pub unlowered_lasts : (board : PlainBoard) (configuration : List ℕ) → IsConfiguration board configuration
    → ((pebble : ℕ) → pebble < board.pebbles → LowersValue board configuration pebble → ⊥)
    → HasValue board configuration Forever
unlowered_lasts board configuration is none = let value = some_value board configuration is in by value.0 value.1
  where
    by : (value : Value) → HasValue board configuration value → HasValue board configuration Forever
    by Forever has = has
    by (Finite number) has =
        let best = best_request board number configuration has in absurd (none best.0 best.1.0.is_pebble best.1.0)

-- ---- a walk over the pebbles, from 0 on

abbrev pub NoneLowersBelow : PlainBoard → List ℕ → ℕ → Type 0
NoneLowersBelow board configuration bound = (other : ℕ) → other < bound → LowersValue board configuration other → ⊥

pub lowers_first : (board : PlainBoard) (configuration : List ℕ) (pebble : ℕ)
    → NoneLowersBelow board configuration pebble → LowersValue board configuration pebble
    → IsSmallest (LowersValue board configuration) (Some pebble)
lowers_first board configuration pebble none lowers =
    (lowers, first_is_smallest (LowersValue board configuration) pebble none)

pub request_none : (board : PlainBoard) (configuration : List ℕ) (pebble : ℕ) → IsConfiguration board configuration
    → IsSmallest (LowersValue board configuration) (Some pebble)
    → (Some pebble ≡ None) ↔ HasValue board configuration Forever
request_none board configuration pebble is best =
    (λ same. absurd cc, λ forever. absurd (not_lowered board configuration pebble is forever best.0))

-- no request lowers a value that lasts forever
pub forever_lowers_none : (board : PlainBoard) (configuration : List ℕ) → IsConfiguration board configuration
    → HasValue board configuration Forever → IsBestRequestIfAny board configuration None
forever_lowers_none board configuration is forever = record {
  best = λ other lowering. not_lowered board configuration other is forever lowering;
  none = (λ _. forever, λ _. refl);
}

-- the first pebble whose gap leads below the value is the best request
pub first_below_best : (board : PlainBoard) (held : List ℕ) (value : Value) (request : Option ℕ)
    → IsConfiguration board held → HasValue board held value → IsFirstBelow board held value request
    → IsBestRequestIfAny board held request
first_below_best board held Forever request is has none =
    subst (IsBestRequestIfAny board held) (sym none) (forever_lowers_none board held is has)
first_below_best board held (Finite number) None is has none =
    let not : (other : ℕ) → LowersValue board held other → ⊥ =
    λ other lowering. none other
    (lowering.is_pebble, gap-of-lowers board held is other lowering.is_pebble number has lowering) in
    record {
      best = not;
      none = (λ _. unlowered_lasts board held is (λ other inside lowering. not other lowering), λ _. refl);
    }
first_below_best board held (Finite number) (Some pebble) is has first =
    let best : IsSmallest (LowersValue board held) (Some pebble) = (
      lowers-of-gap board held is pebble first.0.0 number has first.0.1,
      λ other lowering. first.1 other
          (lowering.is_pebble, gap-of-lowers board held is other lowering.is_pebble number has lowering),
    ) in
    record { best = best; none = request_none board held pebble is best }
