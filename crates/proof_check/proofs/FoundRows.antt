-- The rows that are found by rank, by their configurations.
use Rattle.std.proofs.Common.{◌≡◌, ℕ, zero, suc, ◌<◌, List, [], ◌∷◌, length, map, get_or, refl, sym, ap, subst, ◌∙◌}
use Rattle.std.proofs.Common.{arith, inl, inr}
use Rattle.std.specs.List.{Contains}
use Rattle.std.proofs.lemmas.Bool.{cases_order}
use Rattle.std.proofs.lemmas.List.{get_or-map, length-map, get_or_default}
use Rattle.std.proofs.lemmas.List.Elements.{All-contains}
use Rattle.board_text.specs.PlainBoard.{IsConfiguration, PlainBoard}
use Rattle.positions.specs.Ranks.{rank_of, configuration_at, configurations}
use Rattle.positions.proofs.Cited.{rank_of-configuration_at, configuration_at-rank_of}
use Rattle.proof_check.specs.FirstFaults.{HasRow}
use Rattle.proof_check.specs.Inside.FoundRow.{IsRowFor}
use Rattle.proof_check.specs.Inside.RowIndex.{AreRanked, HasNone, IsRowOf}

-- rows that are shown
pub Contains-map : {R X : Type 0} (f : R → X) (rows : List R) (row : R) → Contains rows row
    → Contains (map f rows) (f row)
Contains-map f rows row is =
    (is.0, omega (arith, length-map rows f, is.1), get_or-map f rows is.0 row (f row) is.1 ∙ ap f is.2)

pub Contains-map_cases : {R X : Type 0} (f : R → X) (rows : List R) (x : X) → Contains (map f rows) x
    → (row : R) × Contains rows row × (f row ≡ x)
Contains-map_cases f [] x (k, inside, is) = absurd (omega (arith, inside))
Contains-map_cases f (row ∷ rows) x (zero, inside, is) = (row, (zero, omega arith, refl), is)
Contains-map_cases f (row ∷ rows) x (suc k, inside, is) =
    let rest = Contains-map_cases f rows x (k, omega (arith, inside), is) in
    let low : rest.1.0 < length rows = rest.1.1 in
    (rest.0, (suc rest.1.0, omega (arith, low), rest.1.2), rest.2)

-- rows of one rank are one
same_row : {R : Type 0} (rank : R → ℕ) (size : ℕ) (rows : List R) (one other : R) → AreRanked rank size rows
    → Contains rows one → Contains rows other → rank one ≡ rank other → one ≡ other
same_row {R} rank size rows one other are is_one is_other same = elim (cases_order is_one.0 is_other.0) [
  | inl equal ↦ sym is_one.2 ∙ ap (λ (k : ℕ). get_or rows k one) equal
      ∙ get_or_default rows is_other.0 one other is_other.1 ∙ is_other.2
  | inr (inl less) ↦ absurd (omega (arith, rising one other is_one is_other less, same))
  | inr (inr more) ↦ absurd (omega (arith, rising other one is_other is_one more, same))
]
  where
    rising : (a b : R) (at : Contains rows a) (then : Contains rows b) → at.0 < then.0 → rank a < rank b
    rising a b at then less =
        let lt : rank (get_or rows at.0 a) < rank (get_or rows then.0 a) = are.ascending at.0 then.0 a less then.1 in
        omega (arith, lt, ap rank at.2, ap rank (get_or_default rows then.0 a b then.1 ∙ then.2))

-- f shows a row with its configuration in place of the rank, and all rows are shown
module _ {R X : Type 0} (board : PlainBoard) (f : R → X) (rank : R → ℕ) (at : X → List ℕ)
    (shows : (row : R) → at (f row) ≡ configuration_at board (rank row))
    (rows : List R) (all : List X) (all_are : map f rows ≡ all) (are : AreRanked rank (configurations board) rows)
    (number : ℕ) (configuration : List ℕ) (is_one : IsConfiguration board configuration)
    (number_is : number ≡ rank_of board configuration) where
  rank_is : (row : R) → Contains rows row → at (f row) ≡ configuration → rank row ≡ number
  rank_is row among e =
      let low : rank row < configurations board =
      All-contains (λ (r : R). rank r < configurations board) rows row are.each among in
      sym (rank_of-configuration_at board (rank row) low) ∙ ap (rank_of board) (sym (shows row) ∙ e) ∙ sym number_is

  shown : (x : X) → Contains all x → (row : R) × Contains rows row × (f row ≡ x)
  shown x among = Contains-map_cases f rows x (subst (λ (xs : List X). Contains xs x) (sym all_are) among)

  pub none_for : HasNone rank rows number → ¬ HasRow at all configuration
  none_for none = λ has.
      let row = shown has.0 has.1 in
      none row.0 row.1 (rank_is row.0 row.1 (ap at row.2 ∙ has.2))

  pub row_for : (row : R) → IsRowOf rank rows number row → IsRowFor at all configuration (f row)
  row_for row is_row = record {
    among = subst (λ (xs : List X). Contains xs (f row)) all_are (Contains-map f rows row is_row.0);
    at_is = shows row ∙ ap (configuration_at board) (is_row.1 ∙ number_is)
        ∙ configuration_at-rank_of board configuration is_one;
    only = λ x among e.
        let other = shown x among in
        sym other.2 ∙ ap f (same_row rank (configurations board) rows other.0 row are other.1 is_row.0
        (rank_is other.0 other.1 (ap at other.2 ∙ e) ∙ sym is_row.1));
  }
