-- Values are in the order of the trees.
use Rattle.std.proofs.Common.{ℕ, suc, List, arith, inl, inr}
use Rattle.std.proofs.lemmas.Bool.{cases_lt}
use Rattle.board_text.specs.PlainBoard.{PlainBoard}
use Rattle.positions.specs.Game.{LabellerTree}
use Rattle.positions.specs.Value.{HasValue}
use Rattle.positions.specs.declared.value.Value.{Value}
use Rattle.positions.specs.declared.value.Value.TheVariants.{Finite, Forever}
use Rattle.positions.proofs.Cited.{lasts_at_most, not_both_trees, some_tree}
use Rattle.domains.specs.ValueOrder.{IsAtMost, IsWorthAtMost, AreWorthTheSame}

-- ---- from trees to values

-- each tree of the first configuration is matched by one of the second
abbrev pub LastsAsLong : PlainBoard → List ℕ → PlainBoard → List ℕ → Type 0
LastsAsLong first configuration second other =
    (depth : ℕ) → LabellerTree first depth configuration → LabellerTree second depth other

module _ (first second : PlainBoard) (configuration other : List ℕ) where
  pub at_most_from_trees : LastsAsLong first configuration second other
      → IsWorthAtMost first configuration second other
  at_most_from_trees lasts (Finite value) (Finite bound) has has_bound = λ less.
      not_both_trees second (suc bound) other
      (lasts (suc bound) (lasts_at_most first configuration (suc bound) value (omega (arith, less)) has.0))
      has_bound.1
  at_most_from_trees lasts Forever (Finite bound) has has_bound = λ less.
      not_both_trees second (suc bound) other (lasts (suc bound) (has (suc bound))) has_bound.1
  at_most_from_trees lasts value Forever has has_bound = λ less. less

  pub value_goes_over : LastsAsLong first configuration second other → LastsAsLong second other first configuration
      → (value : Value) → HasValue first configuration value → HasValue second other value
  value_goes_over there back (Finite value) has = (
    there value has.0,
    elim (some_tree second (suc value) other) [
      | inr tree ↦ tree
      | inl tree ↦ absurd (not_both_trees first (suc value) configuration (back (suc value) tree) has.1)
    ],
  )
  value_goes_over there back Forever has = λ depth. there depth (has depth)

  -- ---- from values to trees

  pub trees_from_at_most : (value bound : Value) → HasValue first configuration value → HasValue second other bound
      → IsAtMost value bound → LastsAsLong first configuration second other
  trees_from_at_most value Forever has has_bound most = λ depth tree. has_bound depth
  trees_from_at_most Forever (Finite bound) has has_bound most = absurd (most tt)
  trees_from_at_most (Finite value) (Finite bound) has has_bound most = λ depth tree.
      elim (cases_lt value depth) [
        | inl more ↦ absurd (not_both_trees first (suc value) configuration
            (lasts_at_most first configuration (suc value) depth more tree) has.1)
        | inr enough ↦ elim (cases_lt bound value) [
          | inl less ↦ absurd (most less)
          | inr at_most ↦ lasts_at_most second other depth bound (omega (arith, enough, at_most)) has_bound.0
        ]
      ]

pub one_value_from_trees : (first second : PlainBoard) (configuration other : List ℕ)
    → LastsAsLong first configuration second other → LastsAsLong second other first configuration
    → AreWorthTheSame first configuration second other
one_value_from_trees first second configuration other there back value = (
  value_goes_over first second configuration other there back value,
  value_goes_over second first other configuration back there value,
)
