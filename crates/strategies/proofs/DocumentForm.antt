-- The document of a board is one as the format has it.
use Rattle.std.proofs.Common.{◌≡◌, ℕ, zero, suc, ◌<◌, ◌≤◌, List, [], ◌∷◌, length, get_or, inl, inr, arith}
use Rattle.std.specs.List.{All, AllPairs}
use Rattle.std.proofs.lemmas.Bool.{cases_lt}
use Rattle.std.proofs.lemmas.List.Elements.{Contains-get_or}
use Rattle.board_text.specs.PlainBoard.{PlainBoard, IsConfiguration}
use Rattle.positions.specs.declared.value.Value.{Value}
use Rattle.positions.specs.declared.value.Value.TheVariants.{Finite, Forever}
use Rattle.positions.specs.Value.{HasValue}
use Rattle.positions.specs.Table.{AnswerRow, RequestRow}
use Rattle.positions.specs.Ranks.{rank_of, configurations}
use Rattle.positions.specs.declared.space.TheConstants.{MAX_CONFIGURATIONS}
use Rattle.positions.proofs.Cited.{lasts_at_most, same_value, forever_from_count, rank_below}
use Rattle.proof_text.specs.Proof.{PlainProof, IsClaim, IsAnswerRow, IsRequestRow}
use Rattle.proof_text.specs.Documents.{IsProof}
use Rattle.strategies.specs.Document.{IsDocumentOf}
use Rattle.strategies.specs.DocumentMoves.{IsAnswerable}
use Rattle.strategies.specs.PositionDocument.{AsksAdversary, IsLabellerRowOver, IsAdversaryRowOver, AreExactlyOver}
use Rattle.positions.specs.Claim.{claim_of}
use Rattle.strategies.proofs.ValueOrder.{worthless}
use Rattle.proof_text.specs.Positions.{configuration_positions}
use Rattle.strategies.proofs.FormedRows.{answer_form, claim_form, no_adversary, no_labeller}
use Rattle.strategies.proofs.KeptRules.{requested_is}
use Rattle.strategies.proofs.PositionLaws.{are_plain}
use Rattle.strategies.specs.Inside.NumberedPositions.{ArePositions}

-- a finite value is smaller than the number of configurations
value_below : (board : PlainBoard) (configuration : List ℕ) (number : ℕ) → IsConfiguration board configuration
    → HasValue board configuration (Finite number)
    → number < configurations board
value_below board configuration number is has =
    elim (cases_lt number (configurations board)) [
      | inl less ↦ less
      | inr many ↦
          let same : Forever ≡ Finite number = same_value board configuration Forever (Finite number)
          (forever_from_count board configuration is
          (lasts_at_most board configuration (configurations board) number many has.0)) has in
          absurd cc
    ]

-- an element of an ascending list of numbers is at least its place, so the list is no longer than a bound on them
place_below : {X : Type 0} (rank : X → ℕ) (rows : List X) (d : X)
    → AllPairs (λ first second. rank first < rank second) rows → (place : ℕ) → place < length rows
    → place ≤ rank (get_or rows place d)
place_below rank rows d ascends zero inside = omega arith
place_below rank rows d ascends (suc place) inside =
    let before : place ≤ rank (get_or rows place d) = place_below rank rows d ascends place (omega arith) in
    let less : rank (get_or rows place d) < rank (get_or rows (suc place) d) =
    ascends place (suc place) d (omega arith) inside in
    omega arith

few_rows : {X : Type 0} (rank : X → ℕ) (bound : ℕ) (rows : List X)
    → AllPairs (λ first second. rank first < rank second) rows → All (λ row. rank row < bound) rows
    → length rows ≤ bound
few_rows rank bound [] ascends each = omega arith
few_rows rank bound (row ∷ rows) ascends each =
    let last : length rows ≤ rank (get_or (row ∷ rows) (length rows) row) =
    place_below rank (row ∷ rows) row ascends (length rows) (omega arith) in
    let less : rank (get_or (row ∷ rows) (length rows) row) < bound = each (length rows) row (omega arith) in
    omega arith

-- the rows of a section are as the format has them, if each row is
pub section : {X : Type 0} (board : PlainBoard) (IsRow IsFormed : X → Type 0) (at : X → List ℕ) (rows : List X)
    → configurations board ≤ MAX_CONFIGURATIONS
    → ((row : X) → IsRow row → IsConfiguration board (at row)) → ((row : X) → IsRow row → IsFormed row)
    → AreExactlyOver (rank_of board) IsRow at rows → (length rows ≤ MAX_CONFIGURATIONS) × All IsFormed rows
section {X} board IsRow IsFormed at rows few are formed exactly =
    let is : (k : ℕ) (d : X) → k < length rows → IsRow (get_or rows k d) =
    λ k d inside. (exactly.each (get_or rows k d)).0 (Contains-get_or rows k d inside) in
    let size : length rows ≤ configurations board =
    few_rows (λ row. rank_of board (at row)) (configurations board) rows exactly.ascending
    (λ k d inside. rank_below board (at (get_or rows k d)) (are (get_or rows k d) (is k d inside))) in
    (omega (arith, size, few), λ k d inside. formed (get_or rows k d) (is k d inside))

pub not_answerable : (board : PlainBoard) (configuration : List ℕ) → IsAnswerable board configuration
    → HasValue board configuration (Finite 0) → ⊥
not_answerable board configuration is has =
    worthless board configuration (Finite 0) has (λ less. omega (arith, less)) is

module _ (board : PlainBoard) (proof : PlainProof) (is_start : IsConfiguration board board.start)
    (few : configurations board ≤ MAX_CONFIGURATIONS)
    (is : IsDocumentOf board proof) where
  claim_formed : (start : Value) → HasValue board board.start start → IsClaim (claim_of start)
  claim_formed (Finite number) has = let low = value_below board board.start number is_start has in omega (arith, low)
  claim_formed Forever has = tt

  small : IsClaim (claim_of is.value)
  small = claim_formed is.value is.has_value

  are : ArePositions board configuration_positions
  are = are_plain board

  formed : (row : AnswerRow) → IsLabellerRowOver configuration_positions board is.value row
      → IsAnswerRow board proof.claim row
  formed = answer_form board configuration_positions are (rank_of board) proof is_start is small

  requests_configuration : (row : RequestRow)
      → AsksAdversary is.value × IsAdversaryRowOver configuration_positions board row → IsConfiguration board row.at
  requests_configuration row (asks, is_row) =
      requested_is board configuration_positions are (rank_of board) proof is_start is is_row.moves row.at
      is_row.reached

  requests_formed : (row : RequestRow) → AsksAdversary is.value × IsAdversaryRowOver configuration_positions board row
      → IsRequestRow board row
  requests_formed row (asks, is_row) =
      let low = value_below board row.at row.left (requests_configuration row (asks, is_row)) is_row.has_value in
      record {
        at = requests_configuration row (asks, is_row);
        left = omega (arith, low, few);
        request = is_row.best.0.is_pebble;
      }

  answers : (length proof.labeller ≤ MAX_CONFIGURATIONS) × All (IsAnswerRow board proof.claim) proof.labeller
  answers =
      section board (IsLabellerRowOver configuration_positions board is.value) (IsAnswerRow board proof.claim)
      (λ (row : AnswerRow). row.at) proof.labeller few (λ row is_row. (formed row is_row).at) formed is.labeller

  requests : (length proof.adversary ≤ MAX_CONFIGURATIONS) × All (IsRequestRow board) proof.adversary
  requests =
      section board _ (IsRequestRow board) (λ (row : RequestRow). row.at) proof.adversary few
      requests_configuration requests_formed is.adversary

  pub is_formed : IsProof board proof
  is_formed = record {
    claim = claim_form board configuration_positions are (rank_of board) proof is_start is small;
    labeller = record {
      few = answers.0;
      each = answers.1;
      in_order = λ k d low. tt;
      ascending = is.labeller.ascending;
    };
    adversary = record {
      few = requests.0;
      each = requests.1;
      in_order = λ k d low. tt;
      ascending = is.adversary.ascending;
    };
    no_labeller = no_labeller configuration_positions (rank_of board) board proof is;
    no_adversary = no_adversary configuration_positions (rank_of board) board proof is;
  }
