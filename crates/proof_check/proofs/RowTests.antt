-- The meaning of a test of the row that is found for some places.
use Rattle.std.proofs.Common.{◌≡◌, ◌↔◌, Bool, true, false, not, true≢false, IsTrue, ℕ, ◌<◌, ◌≤◌, List, length, take}
use Rattle.std.proofs.Common.{slice_get, slice_index}
use Rattle.std.proofs.Common.{Option, Some, None, MatchOption, refl, sym, ap, ◌∙◌, subst, arith, inr}
use Rattle.std.specs.Bool.{then_some}
use Rattle.std.proofs.lemmas.List.{length-take, get_or-take}
use Rattle.std.proofs.lemmas.Option.{slice_get-get_or}
use Rattle.board_text.specs.PlainBoard.{PlainBoard, IsConfiguration}
use Rattle.positions.specs.Game.{moved}
use Rattle.positions.specs.Ranks.{configuration_at, configurations}
use Rattle.positions.proofs.Cited.{configuration_at_is, moved_is_configuration}
use Rattle.positions.specs.Table.{AnswerRow, RequestRow}
use Rattle.positions.specs.declared.turns.Turns.{Turns}
use Rattle.proof_text.specs.Rules.{IsEnough, IsWanted, Serves, IsListedFor, IsListedBelow}
use Rattle.proof_check.specs.Inside.FoundRow.{IsRowFor, IsUnservedFor, IsUnservedBelow}

-- the labeller's row is for enough turns or too few
pub turns_tested : {F : Type 0} (rows : List AnswerRow) (places : List ℕ) (row : AnswerRow) (wanted : Turns)
    (missing short : F)
    (less : Bool) → IsRowFor (λ r. r.at) rows places row → IsWanted wanted → IsTrue (not less)
    ↔ IsEnough wanted row.turns
    → MatchOption (then_some less short) (Serves rows places wanted)
    (IsUnservedFor rows places wanted missing short)
turns_tested rows places row wanted missing short false is some answers =
    λ _. record { row = row; among = is.among; at = is.at_is; enough = answers.0 refl }
turns_tested rows places row wanted missing short true is some answers =
    (some, inr ((row, is.among, is.at_is), fails, refl))
  where
    fails : IsListedFor rows places wanted → ⊥
    fails listed =
        let only = is.only listed.row listed.among listed.at in
        true≢false (sym (answers.1 (subst (λ (r : AnswerRow). IsEnough wanted r.turns) only listed.enough)))

-- the number of the adversary's row is below the bound or not
pub number_tested : {F : Type 0} (rows : List RequestRow) (places : List ℕ) (row : RequestRow) (bound : ℕ)
    (missing large : F)
    (answer : Bool) → IsRowFor (λ r. r.at) rows places row → (answer ≡ false → row.left < bound)
    → (answer ≡ true → bound ≤ row.left)
    → MatchOption (then_some answer large) (IsListedBelow rows places bound)
    (IsUnservedBelow rows places bound missing large)
number_tested rows places row bound missing large false is low high =
    record { row = row; among = is.among; at = is.at_is; below = low refl }
number_tested rows places row bound missing large true is low high = inr ((row, is.among, is.at_is), fails, refl)
  where
    fails : IsListedBelow rows places bound → ⊥
    fails listed =
        let below : listed.row.left < bound = listed.below in
        let same = ap (λ (r : RequestRow). r.left) (is.only listed.row listed.among listed.at) in
        omega (arith, below, same, high refl)

-- facts that follow from right and from wrong take their places
pub match_then : {A B F : Type 0} {P Q : F → Type 0} (found : Option F) → (A → B)
    → ((fault : F) → P fault → Q fault) → MatchOption found A P → MatchOption found B Q
match_then None right wrong is = right is
match_then (Some fault) right wrong is = wrong fault is

-- the answer for a pebble of the board
pub answer_is : (pebbles : ℕ) (answers : List ℕ) (pebble : ℕ) → pebble < pebbles → pebble < length answers
    → slice_get (take pebbles answers) pebble ≡ Some (slice_index answers pebble)
answer_is pebbles answers pebble below fits =
    let inside : pebble < length (take pebbles answers) = omega (arith, length-take pebbles answers, below, fits) in
    slice_get-get_or (take pebbles answers) pebble 0 inside ∙ ap Some (get_or-take pebbles answers pebble 0 below)

-- the result of a move is a configuration
pub result_is : (board : PlainBoard) (rank pebble label : ℕ) → rank < configurations board → label < board.labels
    → IsConfiguration board (moved (configuration_at board rank) pebble label)
result_is board rank pebble label low is_label =
    moved_is_configuration board (configuration_at board rank) pebble label is_label
    (configuration_at_is board rank low)
