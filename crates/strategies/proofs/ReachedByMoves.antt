-- The normal places that moves of one kind lead to.
use Rattle.std.proofs.Common.{ℕ, suc, ◌<◌, List, [], ◌∷◌, ◌++◌, sym, ap, subst}
use Rattle.board_text.specs.PlainBoard.{PlainBoard, IsConfiguration}
use Rattle.positions.specs.declared.value.Value.TheVariants.{Forever}
use Rattle.positions.specs.Game.{moved}
use Rattle.positions.specs.Value.{HasValue}
use Rattle.positions.proofs.Cited.{moved_is_configuration}
use Rattle.proof_text.specs.Positions.{Positions}
use Rattle.strategies.specs.DocumentMoves.{IsAnswerMove, IsRequestMove, LeadsOver}
use Rattle.strategies.proofs.BestAnswers.{lasts_after}
use Rattle.strategies.specs.Inside.NumberedPositions.{ArePositions}

-- one move more
pub one_more : (positions : Positions) (IsMove : List ℕ → ℕ → ℕ → Type 0) (from : List ℕ) (moves : List (ℕ × ℕ))
    (to : List ℕ) (pebble label : ℕ)
    → LeadsOver positions IsMove from moves to → IsMove to pebble label
    → LeadsOver positions IsMove from (moves ++ (pebble, label) ∷ []) (positions.normal (moved to pebble label))
one_more positions IsMove from [] to pebble label leads move = (
  subst (λ (c : List ℕ). IsMove c pebble label) (sym leads) move,
  ap (λ (c : List ℕ). positions.normal (moved c pebble label)) leads,
)
one_more positions IsMove from ((first, taken) ∷ moves) to pebble label leads move =
    (leads.0, one_more positions IsMove (positions.normal (moved from first taken)) moves to pebble label leads.1 move)

-- if moves start only at places with `Holds`, and P goes from the start along each move to such a one, P holds of all
-- places with `Holds` that moves lead to
pub moves_stay : (positions : Positions) (IsMove : List ℕ → ℕ → ℕ → Type 0) (Holds P : List ℕ → Type 0)
    → ((c : List ℕ) (pebble label : ℕ) → IsMove c pebble label → Holds c)
    → ((c : List ℕ) (pebble label : ℕ) → P c → IsMove c pebble label → Holds (positions.normal (moved c pebble label))
    → P (positions.normal (moved c pebble label)))
    → (from : List ℕ) (moves : List (ℕ × ℕ)) (to : List ℕ) → (Holds from → P from)
    → LeadsOver positions IsMove from moves to
    → Holds to → P to
moves_stay positions IsMove Holds P before step from [] to here leads holds =
    subst P leads (here (subst Holds (sym leads) holds))
moves_stay positions IsMove Holds P before step from ((pebble, label) ∷ moves) to here leads holds =
    moves_stay positions IsMove Holds P before step (positions.normal (moved from pebble label)) moves to
    (step from pebble label (here (before from pebble label leads.0)) leads.0) leads.1 holds

module _ (board : PlainBoard) (positions : Positions) (are : ArePositions board positions) where
  abbrev Leads : (List ℕ → ℕ → ℕ → Type 0) → List ℕ → List (ℕ × ℕ) → List ℕ → Type 0
  Leads IsMove from moves to = LeadsOver positions IsMove from moves to

  -- a fact of all normal places is one of those that moves lead to
  pub lead_normal : (IsMove : List ℕ → ℕ → ℕ → Type 0)
      → ((c : List ℕ) (pebble label : ℕ) → IsMove c pebble label → label < board.labels)
      → (P : List ℕ → Type 0) → ((c : List ℕ) → IsConfiguration board c → P (positions.normal c))
      → (from : List ℕ) (moves : List (ℕ × ℕ)) (to : List ℕ) → IsConfiguration board from → P from
      → Leads IsMove from moves to → P to
  lead_normal IsMove low P each from [] to is here leads = subst P leads here
  lead_normal IsMove low P each from ((pebble, label) ∷ moves) to is here leads =
      let next : List ℕ = moved from pebble label in
      let is_next : IsConfiguration board next =
      moved_is_configuration board from pebble label (low from pebble label leads.0) is in
      lead_normal IsMove low P each (positions.normal next) moves to (are.is next is_next) (each next is_next) leads.1

  -- moves lead from a configuration to configurations
  pub lead_to : (IsMove : List ℕ → ℕ → ℕ → Type 0)
      → ((c : List ℕ) (pebble label : ℕ) → IsMove c pebble label → label < board.labels)
      → (from : List ℕ) (moves : List (ℕ × ℕ)) (to : List ℕ) → IsConfiguration board from → Leads IsMove from moves to
      → IsConfiguration board to
  lead_to IsMove low from moves to is leads =
      lead_normal IsMove low (IsConfiguration board) are.is from moves to is is leads

  pub answers_lead_to : (from : List ℕ) (moves : List (ℕ × ℕ)) (to : List ℕ) → IsConfiguration board from
      → Leads (IsAnswerMove board) from moves to → IsConfiguration board to
  answers_lead_to = lead_to (IsAnswerMove board) (λ c pebble label move. move.best.0.legal.is_label)

  pub requests_lead_to : (from : List ℕ) (moves : List (ℕ × ℕ)) (to : List ℕ) → IsConfiguration board from
      → Leads (IsRequestMove board) from moves to → IsConfiguration board to
  requests_lead_to = lead_to (IsRequestMove board) (λ c pebble label move. move.legal.is_label)

  -- best answers lead from places of value forever to others of that value
  pub stays_forever : (from : List ℕ) (moves : List (ℕ × ℕ)) (to : List ℕ)
      → IsConfiguration board from → HasValue board from Forever
      → Leads (IsAnswerMove board) from moves to → HasValue board to Forever
  stays_forever from [] to is has leads = subst (λ (c : List ℕ). HasValue board c Forever) leads has
  stays_forever from ((pebble, label) ∷ moves) to is has leads =
      let next : List ℕ = moved from pebble label in
      let is_next : IsConfiguration board next =
      moved_is_configuration board from pebble label leads.0.best.0.legal.is_label is in
      let lasts : HasValue board next Forever =
      λ depth. lasts_after board depth from pebble label leads.0.is_pebble leads.0.best (has (suc depth)) in
      stays_forever (positions.normal next) moves to (are.is next is_next)
      (are.same_value next is_next Forever lasts) leads.1
