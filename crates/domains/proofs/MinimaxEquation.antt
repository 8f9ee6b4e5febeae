-- The values of a board's configurations are the one solution of the minimax equation.
use Rattle.std.proofs.Common.{ℕ, zero, suc, ◌<◌, List, arith, inl, inr, ◌↔◌}
use Rattle.std.proofs.lemmas.Bool.{cases_lt}
use Rattle.board_text.specs.PlainBoard.{PlainBoard, IsConfiguration}
use Rattle.positions.specs.Game.{AdversaryTree, moved}
use Rattle.positions.specs.Value.{HasValue}
use Rattle.positions.specs.declared.value.Value.{Value}
use Rattle.positions.specs.declared.value.Value.TheVariants.{Finite, Forever}
use Rattle.positions.proofs.Cited.{lasts_at_most, not_both_trees, some_tree, moved_is_configuration}
use Rattle.strategies.specs.Best.{IsLess}
use Rattle.domains.specs.Minimax.{IsMinimax}

-- ---- a value says at which depths an adversary has a tree

tree_above : (board : PlainBoard) (configuration : List ℕ) (value : Value) (bound : ℕ)
    → HasValue board configuration value
    → IsLess value (Finite bound) → AdversaryTree board bound configuration
tree_above board configuration (Finite number) bound is below =
    elim (some_tree board bound configuration) [
      | inr tree ↦ tree
      | inl tree ↦ absurd (not_both_trees board (suc number) configuration
          (lasts_at_most board configuration (suc number) bound (omega (arith, below)) tree) is.1)
    ]
tree_above board configuration Forever bound is below = absurd below

below_tree : (board : PlainBoard) (configuration : List ℕ) (value : Value) (bound : ℕ)
    → HasValue board configuration value
    → AdversaryTree board bound configuration → IsLess value (Finite bound)
below_tree board configuration (Finite number) bound is tree =
    elim (cases_lt number bound) [
      | inl below ↦ below
      | inr above ↦ absurd (not_both_trees board bound configuration
          (lasts_at_most board configuration bound number above is.0) tree)
    ]
below_tree board configuration Forever bound is tree = not_both_trees board bound configuration (is bound) tree

value_from_trees : (board : PlainBoard) (configuration : List ℕ) (value : Value)
    → ((bound : ℕ) → IsLess value (Finite bound) ↔ AdversaryTree board bound configuration)
    → HasValue board configuration value
value_from_trees board configuration (Finite number) trees = (
  elim (some_tree board number configuration) [
    | inl tree ↦ tree
    | inr tree ↦ let below : number < number = (trees number).1 tree in let no : ⊥ = omega (arith, below) in absurd no
  ],
  (trees (suc number)).0 (omega arith),
)
value_from_trees board configuration Forever trees = λ depth.
    elim (some_tree board depth configuration) [
      | inl tree ↦ tree
      | inr tree ↦ absurd ((trees depth).1 tree)
    ]

-- ---- values solve the equation

pub values_solve : (board : PlainBoard) (value : List ℕ → Value)
    → ((configuration : List ℕ) → IsConfiguration board configuration
    → HasValue board configuration (value configuration)) → IsMinimax board value
values_solve board value each = λ configuration is bound. (
  λ below.
      let tree = tree_above board configuration (value configuration) (suc bound) (each configuration is) below in (
        tree.0,
        tree.1,
        λ label legal. below_tree board (moved configuration tree.0 label)
            (value (moved configuration tree.0 label)) bound
            (each (moved configuration tree.0 label)
            (moved_is_configuration board configuration tree.0 label legal.is_label is)) (tree.2 label legal),
      ),
  λ request.
      below_tree board configuration (value configuration) (suc bound) (each configuration is) (
        request.0,
        request.1,
        λ label legal. tree_above board (moved configuration request.0 label)
            (value (moved configuration request.0 label)) bound
            (each (moved configuration request.0 label)
            (moved_is_configuration board configuration request.0 label legal.is_label is))
            (request.2 label legal),
      ),
)

-- ---- a solution of the equation gives the values

trees_of : (board : PlainBoard) (value : List ℕ → Value) → IsMinimax board value
    → (bound : ℕ) (configuration : List ℕ)
    → IsConfiguration board configuration → IsLess (value configuration) (Finite bound)
    ↔ AdversaryTree board bound configuration
trees_of board value solves zero configuration is = (none (value configuration), λ tree. absurd tree)
  where
    none : (value : Value) → IsLess value (Finite zero) → ⊥
    none (Finite number) below = omega (arith, below)
    none Forever below = below
trees_of board value solves (suc bound) configuration is = (
  λ below.
      let request = (solves configuration is bound).0 below in (
        request.0,
        request.1,
        λ label legal. (trees_of board value solves bound (moved configuration request.0 label)
            (moved_is_configuration board configuration request.0 label legal.is_label is)).0 (request.2 label legal),
      ),
  λ tree.
      (solves configuration is bound).1 (
        tree.0,
        tree.1,
        λ label legal. (trees_of board value solves bound (moved configuration tree.0 label)
            (moved_is_configuration board configuration tree.0 label legal.is_label is)).1 (tree.2 label legal),
      ),
)

pub solutions_are_values : (board : PlainBoard) (value : List ℕ → Value) → IsMinimax board value
    → (configuration : List ℕ) → IsConfiguration board configuration
    → HasValue board configuration (value configuration)
solutions_are_values board value solves configuration is =
    value_from_trees board configuration (value configuration)
    (λ bound. trees_of board value solves bound configuration is)

pub one_solution : (board : PlainBoard) (value : List ℕ → Value)
    → ((configuration : List ℕ) → IsConfiguration board configuration
    → HasValue board configuration (value configuration)) ↔ IsMinimax board value
one_solution board value = (values_solve board value, solutions_are_values board value)
