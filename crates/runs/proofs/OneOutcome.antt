-- A board has one report at most, and a text one solution, one report and one fault.
use Rattle.std.proofs.Common.{◌≡◌, ℕ, ◌<◌, ◌↔◌, ◌⊎◌, inl, inr, List, length, slice_index, refl, sym, ap, ◌∙◌, subst}
use Rattle.std.proofs.Common.{arith}
use Rattle.std.proofs.lemmas.Bool.{cases_order}
use Rattle.std.proofs.lemmas.List.{ext_get_or}
use Rattle.board_text.specs.PlainBoard.{PlainBoard}
use Rattle.board_text.specs.declared.fault.BoardFault.{BoardFault}
use Rattle.board_text.proofs.Cited.{one_board, one_fault, not_both}
use Rattle.positions.specs.declared.value.Value.{Value}
use Rattle.positions.specs.declared.value.Value.TheVariants.{Finite, Forever}
use Rattle.positions.specs.Ranks.{configurations, configuration_at}
use Rattle.positions.specs.Value.{HasValue}
use Rattle.positions.proofs.Cited.{same_size, same_value}
use Rattle.proof_text.specs.ProofText.{proof_text}
use Rattle.gap_values.specs.Sizes.{AreValueCounts, HasValueCount}
use Rattle.strategies.proofs.Cited.{one_document}
use Rattle.runs.specs.Report.{Report, IsReport, IsReportOf, report_text_alone}
use Rattle.runs.specs.SolveRun.{IsSolution, IsSolved}
use Rattle.runs.specs.Texts.{IsBoardWithin, IsWithinLimit, IsWrongAmong, IsWrongWithin}
use Rattle.command_line.specs.declared.asked.BoardLimit.{BoardLimit}
use Rattle.command_line.specs.declared.asked.BoardLimit.TheVariants.{Small}
use Rattle.runs.specs.declared.fault.RunFault.{RunFault}
use Rattle.runs.specs.declared.fault.RunFault.TheVariants.{Board, TooLarge}

-- two bounds with the same numbers below them are equal
same_bound : (P : ℕ → Type 0) (first second : ℕ) → ((number : ℕ) → number < first ↔ P number)
    → ((number : ℕ) → number < second ↔ P number)
    → first ≡ second
same_bound P first second one other = elim (cases_order first second) [
  | inl same ↦ same
  | inr (inl less) ↦ let below : first < first = (one first).1 ((other first).0 less) in absurd (omega arith)
  | inr (inr more) ↦ let below : second < second = (other second).1 ((one second).0 more) in absurd (omega arith)
]

same_count : (board : PlainBoard) (value : Value) (first second : ℕ) → HasValueCount board value first
    → HasValueCount board value second → first ≡ second
same_count board value =
    same_size (λ rank. (rank < configurations board) × HasValue board (configuration_at board rank) value)

same_counts : (board : PlainBoard) (first second : List ℕ) (forever unending : ℕ)
    → AreValueCounts board first forever → AreValueCounts board second unending → first ≡ second
same_counts board first second forever unending one other =
    let size : length first ≡ length second =
    same_bound _ (length first) (length second) one.to_greatest other.to_greatest in
    ext_get_or 0 first second size
    (λ value inside. same_count board (Finite value) (slice_index first value) (slice_index second value)
    (one.each value inside) (other.each value (omega (arith, inside, size))))

same_report : (board : PlainBoard) (first second : Report) → IsReport board first → IsReport board second
    → first ≡ second
same_report board first second one other =
    let start : first.start ≡ second.start =
    same_value board board.start first.start second.start one.start other.start in
    let counts : first.counts ≡ second.counts =
    same_counts board first.counts second.counts first.forever second.forever one.counted other.counted in
    let forever : first.forever ≡ second.forever =
    same_count board Forever first.forever second.forever one.counted.unending other.counted.unending in
    let same : ◌≡◌ {A = Report}
    (record { start = first.start; counts = first.counts; forever = first.forever }) second =
    rw (start, counts, forever) refl in
    same

-- a board has one report
pub one_report_of : (board : PlainBoard) (first second : List ℕ) → IsReportOf board first → IsReportOf board second
    → first ≡ second
one_report_of board first second one other =
    let same : one.report ≡ other.report = same_report board one.report other.report one.is_report other.is_report in
    one.text_is ∙ ap (report_text_alone board) same ∙ sym other.text_is

module _ (text : List ℕ) where
  -- the text is that of one board at most
  same_board : (limit more : BoardLimit) (first second : PlainBoard) → IsBoardWithin limit text first
      → IsBoardWithin more text second
      → second ≡ first
  same_board limit more first second one other =
      one_board second first other.is_board one.is_board (sym other.spelled ∙ one.spelled)

  pub one_solution : (value worth : Value) (first second : List ℕ) → IsSolution text value first
      → IsSolution text worth second
      → (value ≡ worth) × (first ≡ second)
  one_solution value worth first second one other =
      let board : PlainBoard = one.0 in
      let solved : IsSolved board worth second =
      subst (λ (b : PlainBoard). IsSolved b worth second)
      (same_board Small Small board other.0 one.1 other.1) other.2 in
      let document : one.2.document ≡ solved.document =
      one_document board one.2.document solved.document one.2.is_document solved.is_document in (
        same_value board board.start value worth one.2.has_value solved.has_value,
        one.2.text_is ∙ ap (proof_text board) document ∙ sym solved.text_is,
      )

module _ (IsSmall : PlainBoard → Type 0) (text : List ℕ) where
  -- a fault of a text is one of the board's text, or that the board is too large
  wrong_is : (fault : RunFault) → IsWrongAmong IsSmall text fault
      → ((told : BoardFault) × (fault ≡ Board told) × IsWrongAmong IsSmall text (Board told)) ⊎
      ((fault ≡ TooLarge) × IsWrongAmong IsSmall text TooLarge)
  wrong_is (Board told) wrong = inl (told, refl, wrong)
  wrong_is TooLarge wrong = inr (refl, wrong)
  wrong_is fault wrong = absurd wrong

  faulty_or_large : (told : BoardFault) → IsWrongAmong IsSmall text (Board told) → IsWrongAmong IsSmall text TooLarge
      → ⊥
  faulty_or_large told wrong (board, is_board, spelled, many) =
      not_both text told.line told.kind board is_board spelled wrong.1 wrong.0

  same_told : (first second : BoardFault) → IsWrongAmong IsSmall text (Board first)
      → IsWrongAmong IsSmall text (Board second) → first ≡ second
  same_told first second wrong also =
      let same = one_fault text first.line second.line first.kind second.kind wrong.1 also.1 wrong.0 also.0 in
      let told : ◌≡◌ {A = BoardFault} (record { line = first.line; kind = first.kind }) second =
      rw (same.0, same.1) refl in
      told

  pub one_wrong_among : (fault other : RunFault) → IsWrongAmong IsSmall text fault → IsWrongAmong IsSmall text other
      → fault ≡ other
  one_wrong_among fault other wrong also = elim (wrong_is fault wrong) [
    | inl (told, is, faulty) ↦ elim (wrong_is other also) [
      | inl (too, is_too, faulty_too) ↦ is ∙ ap Board (same_told told too faulty faulty_too) ∙ sym is_too
      | inr (is_large, large) ↦ absurd (faulty_or_large told faulty large)
    ]
    | inr (is_large, large) ↦ elim (wrong_is other also) [
      | inl (too, is_too, faulty_too) ↦ absurd (faulty_or_large too faulty_too large)
      | inr (is_too, large_too) ↦ is_large ∙ sym is_too
    ]
  ]

pub one_wrong : (limit : BoardLimit) (text : List ℕ) (fault other : RunFault) → IsWrongWithin limit text fault
    → IsWrongWithin limit text other → fault ≡ other
one_wrong limit = one_wrong_among (IsWithinLimit limit)
