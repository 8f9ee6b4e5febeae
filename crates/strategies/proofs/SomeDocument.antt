-- Each board has a document.
use Rattle.std.proofs.Common.{◌≡◌, ℕ, zero, suc, ◌+◌, ◌<◌, ◌⊎◌, inl, inr, List, [], ◌∷◌, ◌++◌, refl, ap, ◌∙◌}
use Rattle.std.proofs.Common.{sym, subst, arith}
use Rattle.std.specs.List.{Contains}
use Rattle.board_text.specs.PlainBoard.{PlainBoard, IsConfiguration}
use Rattle.positions.specs.declared.value.Value.{Value}
use Rattle.positions.specs.declared.value.Value.TheVariants.{Finite, Forever}
use Rattle.positions.specs.Claim.{claim_of}
use Rattle.positions.specs.Table.{AnswerRow, RequestRow}
use Rattle.positions.specs.Value.{HasValue}
use Rattle.positions.proofs.Cited.{some_value}
use Rattle.proof_text.specs.Arranged.{arranged}
use Rattle.proof_text.specs.Positions.{Positions, class_positions, configuration_positions}
use Rattle.proof_text.specs.Proof.{PlainProof}
use Rattle.strategies.specs.ClassDocument.{IsClassDocumentOf}
use Rattle.strategies.specs.Document.{IsDocumentOf}
use Rattle.strategies.specs.Inside.Numbering.{Numbering, by_rank, by_order, AreAll, IsNumbering}
use Rattle.strategies.specs.Inside.ReachedOver.{IsReachedByRequestsOver}
use Rattle.strategies.specs.Inside.Side.{Side, labeller_side_over, adversary_side_over, AreOfReached}
use Rattle.strategies.specs.PositionDocument.{AsksAdversary, IsLabellerRowOver, IsAdversaryRowOver, AreExactlyOver}
use Rattle.strategies.specs.PositionDocument.{IsDocumentOver}
use Rattle.strategies.proofs.AddedRanks.{contains_or_not}
use Rattle.strategies.proofs.DocumentRows.{answer_row_for, request_row_for}
use Rattle.strategies.proofs.GatheredRows.{adversarys, labellers, no_request, no_row_there, row_there}
use Rattle.strategies.proofs.NormalForms.{arranged_form}
use Rattle.strategies.proofs.Numberings.{are_orders, are_ranks}
use Rattle.strategies.proofs.PositionLaws.{are_normal, are_plain}
use Rattle.strategies.specs.Inside.NumberedPositions.{ArePositions}
use Rattle.strategies.proofs.ReachedLists.{answers_reach, requests_reach}
use Rattle.strategies.proofs.RowLists.{AreExactlyBelow, all_rows, no_rows, same_fact}

module _ {R : Type 0} (board : PlainBoard) (numbering : Numbering) (are : IsNumbering board numbering) (side : Side R)
    (of_reached : AreOfReached numbering board side) where
  -- the side has a row at some places, or has none there
  abbrev StandsOrNot : List ℕ → Type 0
  StandsOrNot places = ((row : side.Row) × side.IsRow row × (side.at row ≡ places))
      ⊎ ((row : side.Row) → side.IsRow row → side.at row ≡ places → ⊥)

  -- the side has a row whose places have the number, or has none
  abbrev HasRowOrNot : ℕ → Type 0
  HasRowOrNot number = ((row : side.Row) × side.IsRow row × (numbering.number (side.at row) ≡ number))
      ⊎ ((row : side.Row) → side.IsRow row → numbering.number (side.at row) ≡ number → ⊥)

  module _ (numbers : List ℕ) (all : AreAll numbering side.IsReached (Contains numbers))
      (stands : (number : ℕ) → numbering.IsNumber number → side.IsReached number
      → StandsOrNot (numbering.places number))
    where
      at_places : (number : ℕ) (row : side.Row) → side.IsRow row → numbering.number (side.at row) ≡ number
          → side.at row ≡ numbering.places number
      at_places number row is_row same =
          sym (are.places_are (side.at row) (of_reached.is row is_row)) ∙ ap numbering.places same

      row_or_none : (number : ℕ) → HasRowOrNot number
      row_or_none number = elim (contains_or_not numbers number) [
        | inl among ↦
            let reached = (all number).0 among in
            elim (stands number reached.0 reached.1) [
              | inl (row, is_row, here) ↦ inl
                  (row, is_row, ap numbering.number here ∙ are.again number reached.0)
              | inr none ↦ inr (λ row is_row same. none row is_row (at_places number row is_row same))
            ]
        | inr not ↦ inr (λ row is_row same. not ((all number).1 (
          subst numbering.IsNumber same (are.number_is (side.at row) (of_reached.is row is_row)),
          of_reached.reached row number is_row (at_places number row is_row same),
        )))
      ]

      rows_below : (bound : ℕ) → (rows : List side.Row) × AreExactlyBelow numbering.number side.IsRow side.at bound rows
      rows_below zero = (
        [],
        no_rows numbering.number side.at _
            (λ row is. let below : numbering.number (side.at row) < 0 = is.1 in omega (arith, below)),
      )
      rows_below (suc bound) =
          let before = rows_below bound in
          let next : bound + 1 ≡ suc bound = omega arith in
          elim (row_or_none bound) [
            | inl (row, is_row, here) ↦ (
              before.0 ++ row ∷ [],
              subst (λ (n : ℕ). AreExactlyBelow numbering.number side.IsRow side.at n (before.0 ++ row ∷ [])) next
                  (row_there board numbering are side of_reached bound before.0 row before.1 is_row here),
            )
            | inr none ↦ (
              before.0,
              subst (λ (n : ℕ). AreExactlyBelow numbering.number side.IsRow side.at n before.0) next
                  (no_row_there board numbering are side of_reached bound before.0 before.1 none),
            )
          ]

      -- a side has a list of its rows
      rows_exist : (rows : List side.Row) × AreExactlyOver numbering.number side.IsRow side.at rows
      rows_exist =
          let rows = rows_below are.end in (
            rows.0,
            all_rows numbering.number side.IsRow side.at are.end rows.0 rows.1 (λ row is_row.
                are.below (numbering.number (side.at row)) (are.number_is (side.at row) (of_reached.is row is_row))),
          )

module _ (board : PlainBoard) (positions : Positions) (are : ArePositions board positions) (numbering : Numbering)
    (are_numbers : IsNumbering board numbering) (is : IsConfiguration board board.start) where
  abbrev answers_side : Value → Side AnswerRow
  answers_side = labeller_side_over (λ row. row) (λ row. Unit {0}) positions numbering board

  abbrev requests_side : Side RequestRow
  requests_side = adversary_side_over (λ row. row) (λ row. Unit {0}) positions numbering board

  labeller_exists : (start : Value)
      → (rows : List AnswerRow)
      × AreExactlyOver numbering.number (IsLabellerRowOver positions board start) (λ row. row.at) rows
  labeller_exists start =
      let numbers = answers_reach board positions are numbering are_numbers is in
      rows_exist board numbering are_numbers (answers_side start)
      (labellers board positions are numbering is (λ row. row) (λ row. Unit {0}) start) numbers.0 numbers.1
      (λ number is_number reached.
      let row = answer_row_for board positions start reached.holds.value reached.moves (numbering.places number)
      (are_numbers.is number is_number) reached.reached reached.holds.has_value reached.holds.some in
      inl (row.0, row.1, row.2))

  adversary_rows : (rows : List RequestRow)
      × AreExactlyOver numbering.number (IsAdversaryRowOver positions board) (λ row. row.at) rows
  adversary_rows =
      let numbers = requests_reach board positions are numbering are_numbers is in
      rows_exist board numbering are_numbers requests_side
      (adversarys board positions are numbering is (λ row. row) (λ row. Unit {0})) numbers.0 numbers.1
      (λ number is_number reached.
      let is_at = are_numbers.is number is_number in
      let value = some_value board (numbering.places number) is_at in
      by number is_at reached value.0 value.1)
    where
      by : (number : ℕ) → IsConfiguration board (numbering.places number)
          → IsReachedByRequestsOver positions numbering board number → (value : Value)
          → HasValue board (numbering.places number) value
          → StandsOrNot board numbering are_numbers requests_side
          (adversarys board positions are numbering is (λ row. row) (λ row. Unit {0})) (numbering.places number)
      by number is_at reached (Finite left) has =
          let row = request_row_for board positions are left reached.moves (numbering.places number) is_at
          reached.reached has in
          inl (row.0, row.1, row.2)
      by number is_at reached Forever has = inr (no_request board positions (numbering.places number) has)

  adversary_exists : (start : Value)
      → (rows : List RequestRow)
      × AreExactlyOver numbering.number (λ row. AsksAdversary start × IsAdversaryRowOver positions board row)
      (λ row. row.at) rows
  adversary_exists Forever = ([], no_rows numbering.number (λ row. row.at) _ (λ row asked. asked.0))
  adversary_exists (Finite number) = (
    adversary_rows.0,
    same_fact numbering.number (λ row. row.at) _ _ adversary_rows.0
        (λ row. (λ is_row. (tt, is_row), λ asked. asked.1)) adversary_rows.1,
  )

  pub document_exists_over : (proof : PlainProof) × IsDocumentOver positions numbering.number board proof
  document_exists_over =
      let value = some_value board board.start is in
      let labeller = labeller_exists value.0 in
      let adversary = adversary_exists value.0 in
      let proof : PlainProof = record { claim = claim_of value.0; labeller = labeller.0; adversary = adversary.0 } in
      let is_document : IsDocumentOver positions numbering.number board proof = record {
        value = value.0;
        has_value = value.1;
        claim = refl;
        labeller = labeller.1;
        adversary = adversary.1;
      } in
      (proof, is_document)

-- each configuration for itself
pub document_exists : (board : PlainBoard) → IsConfiguration board board.start
    → (proof : PlainProof) × IsDocumentOf board proof
document_exists board =
    document_exists_over board configuration_positions (are_plain board) (by_rank board) (are_ranks board)

-- by classes
pub class_document_exists : (board : PlainBoard) → IsConfiguration board board.start
    → (proof : PlainProof) × IsClassDocumentOf board proof
class_document_exists board = document_exists_over board (class_positions board.labels)
    (are_normal board (arranged board.labels) (arranged_form board)) (by_order board) (are_orders board)
