-- Values of products.
use Rattle.std.proofs.Common.{◌≡◌, ℕ, suc, ◌+◌, ◌*◌, ◌<◌, ◌⊎◌, List, replicate, arith, inl, inr}
use Rattle.std.proofs.lemmas.Bool.{cases_lt}
use Rattle.board_text.specs.PlainBoard.{PlainBoard}
use Rattle.positions.specs.Game.{LabellerTree}
use Rattle.positions.specs.Value.{HasValue}
use Rattle.positions.specs.declared.value.Value.{Value}
use Rattle.positions.specs.declared.value.Value.TheVariants.{Finite, Forever}
use Rattle.positions.proofs.Cited.{lasts_at_most, not_both_trees}
use Rattle.domains.specs.Products.{IsProduct}
use Rattle.domains.specs.ValueOrder.{IsAtMost}
use Rattle.domains.specs.Withdrawal.{IsFreed}
use Rattle.domains.proofs.LastingProducts.{factors_last}
use Rattle.domains.proofs.Withdrawals.{freed_lasts}

-- a value that isn't at most a finite one has a tree of one more depth
higher : (board : PlainBoard) (configuration : List ℕ) (value : Value) (number : ℕ)
    → HasValue board configuration value
    → IsAtMost value (Finite number) ⊎ LabellerTree board (suc number) configuration
higher board configuration Forever number has = inr (has (suc number))
higher board configuration (Finite value) number has =
    elim (cases_lt number value) [
      | inl more ↦ inr (lasts_at_most board configuration (suc number) value (omega (arith, more)) has.0)
      | inr most ↦ inl (λ less. let no : ⊥ = omega (arith, less, most) in no)
    ]

module _ (outer inner board : PlainBoard) (copy piece : ℕ) (configuration : List ℕ)
    (product : IsProduct outer inner board)
    (fewer : suc board.pebbles ≡ outer.pebbles + inner.pebbles)
    (is_copy : copy < outer.labels) (is_piece : piece < inner.labels)
    (freed : IsFreed board (replicate board.pebbles (copy * inner.labels + piece)) configuration) where
  pub product_worth : (of_outer of_inner value : Value) → HasValue outer (replicate outer.pebbles copy) of_outer
      → HasValue inner (replicate inner.pebbles piece) of_inner → HasValue board configuration value
      → IsAtMost of_outer value ⊎ IsAtMost of_inner value
  product_worth of_outer of_inner Forever has_outer has_inner has = inl (λ less. less)
  product_worth of_outer of_inner (Finite number) has_outer has_inner has =
      elim (higher outer (replicate outer.pebbles copy) of_outer number has_outer) [
        | inl most ↦ inl most
        | inr outer_tree ↦ elim (higher inner (replicate inner.pebbles piece) of_inner number has_inner) [
          | inl most ↦ inr most
          | inr inner_tree ↦ absurd (not_both_trees board (suc number) configuration
              (freed_lasts board (suc number) (replicate board.pebbles (copy * inner.labels + piece)) configuration
              freed
              (factors_last outer inner board (suc number) copy piece product fewer is_copy is_piece
              outer_tree inner_tree)) has.1)
        ]
      ]
