-- A rank that is each finite value is lowered by a request.
use Rattle.std.proofs.Common.{◌≡◌, ◌≢◌, ℕ, suc, ◌<◌, ◌⊎◌, List, length, ◌∙◌, arith, inl, inr}
use Rattle.std.proofs.lemmas.Bool.{cases_lt, cases_eq}
use Rattle.std.proofs.lemmas.List.{length-set}
use Rattle.board_text.specs.PlainBoard.{PlainBoard}
use Rattle.positions.specs.Game.{AdversaryTree, moved}
use Rattle.positions.specs.Value.{HasValue}
use Rattle.positions.specs.declared.value.Value.{Value}
use Rattle.positions.specs.declared.value.Value.TheVariants.{Finite, Forever}
use Rattle.positions.proofs.Cited.{lasts_at_most, not_both_trees}
use Rattle.domains.specs.Kept.{IsLowered}
use Rattle.domains.proofs.EachValue.{each_has_value}

-- a configuration with a finite value
abbrev Ends : PlainBoard → List ℕ → Type 0
Ends board c = (length c ≡ board.pebbles) × (number : ℕ) × HasValue board c (Finite number)

abbrev number_of : Value → ℕ
number_of (Finite number) = number
number_of Forever = 0

abbrev ranked : (board : PlainBoard) (c : List ℕ) → (length c ≡ board.pebbles) ⊎ (length c ≢ board.pebbles) → ℕ
ranked board c (inl long) = number_of (each_has_value board c long).0
ranked board c (inr other) = 0

-- the finite value, if there is one
finite_value : PlainBoard → List ℕ → ℕ
finite_value board c = ranked board c (cases_eq (length c) board.pebbles)

one_number : (board : PlainBoard) (c : List ℕ) (number other : ℕ) → HasValue board c (Finite number)
    → HasValue board c (Finite other) → number ≡ other
one_number board c number other has has_other =
    elim (cases_lt number other) [
      | inl less ↦ absurd (not_both_trees board (suc number) c
          (lasts_at_most board c (suc number) other (omega (arith, less)) has_other.0) has.1)
      | inr enough ↦ elim (cases_lt other number) [
        | inl less ↦ absurd (not_both_trees board (suc other) c
            (lasts_at_most board c (suc other) number (omega (arith, less)) has.0) has_other.1)
        | inr same ↦ omega (arith, enough, same)
      ]
    ]

number_is : (board : PlainBoard) (c : List ℕ) (value : Value) (number : ℕ) → HasValue board c value
    → HasValue board c (Finite number) → number_of value ≡ number
number_is board c (Finite found) number has has_number = one_number board c found number has has_number
number_is board c Forever number has has_number =
    absurd (not_both_trees board (suc number) c (has (suc number)) has_number.1)

ranked_is : (board : PlainBoard) (c : List ℕ) (number : ℕ) → length c ≡ board.pebbles
    → HasValue board c (Finite number)
    → (cases : (length c ≡ board.pebbles) ⊎ (length c ≢ board.pebbles)) → ranked board c cases ≡ number
ranked_is board c number long has (inr other) = absurd (other long)
ranked_is board c number long has (inl is) =
    let found = each_has_value board c is in number_is board c found.0 number found.1 has

finite_value_is : (board : PlainBoard) (c : List ℕ) → length c ≡ board.pebbles → (number : ℕ)
    → HasValue board c (Finite number) → finite_value board c ≡ number
unfolding finite_value
finite_value_is board c long number has = ranked_is board c number long has (cases_eq (length c) board.pebbles)

-- a configuration that an adversary stops within a number has a smaller value
stopped : (board : PlainBoard) (c : List ℕ) (number : ℕ) (value : Value) → AdversaryTree board number c
    → HasValue board c value → (less : ℕ) × (less < number) × HasValue board c (Finite less)
stopped board c number Forever tree has = absurd (not_both_trees board number c (has number) tree)
stopped board c number (Finite less) tree has =
    elim (cases_lt less number) [
      | inl below ↦ (less, below, has)
      | inr enough ↦ absurd (not_both_trees board number c
          (lasts_at_most board c number less enough has.0) tree)
    ]

value_lowered : (board : PlainBoard) → IsLowered (Ends board) (finite_value board) board
value_lowered board c ends =
    let tree = ends.2.1 in (
      tree.0,
      tree.1,
      λ label legal.
          let after = moved c tree.0 label in
          let long : length after ≡ board.pebbles = length-set c tree.0 label ∙ ends.0 in
          let found = each_has_value board after long in
          let less = stopped board after ends.1 found.0 (tree.2 label legal) found.1 in
          let here = finite_value_is board c ends.0 ends.1 ends.2 in
          let there = finite_value_is board after long less.0 less.2 in
          ((long, less.0, less.2), omega (arith, here, there, less.1)),
    )

pub some_rank : (board : PlainBoard) → (rank : List ℕ → ℕ)
    × ((c : List ℕ) → length c ≡ board.pebbles → (number : ℕ) → HasValue board c (Finite number) → rank c ≡ number)
    × IsLowered (λ c. (length c ≡ board.pebbles) × (number : ℕ) × HasValue board c (Finite number)) rank board
some_rank board = (finite_value board, finite_value_is board, value_lowered board)
