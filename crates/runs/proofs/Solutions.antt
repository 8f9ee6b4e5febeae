-- Each text of a small board has a solution and a report, and each other text has a fault.
use Rattle.std.proofs.Common.{◌≡◌, ℕ, suc, ◌<◌, ◌≤◌, ◌↔◌, ◌⊎◌, inl, inr, Bool, true, false, List, length, refl, sym}
use Rattle.std.proofs.Common.{subst, arith}
use Rattle.std.proofs.lemmas.Bool.{cases_lt}
use Rattle.board_text.specs.PlainBoard.{PlainBoard, IsConfiguration}
use Rattle.board_text.proofs.Cited.{board_or_fault}
use Rattle.positions.specs.declared.value.Value.{Value}
use Rattle.positions.specs.declared.value.Value.TheVariants.{Finite, Forever}
use Rattle.positions.specs.Counts.{HasSize}
use Rattle.positions.specs.Laws.{Occurs}
use Rattle.positions.specs.Ranks.{configurations, rank_of, configuration_at}
use Rattle.positions.specs.Value.{HasValue}
use Rattle.positions.proofs.Cited.{each_or_some, count_below, size_of, some_value, smaller_occurs, configuration_at_is}
use Rattle.positions.proofs.Cited.{configuration_at-rank_of, rank_below, same_value}
use Rattle.proof_text.specs.ProofText.{proof_text}
use Rattle.gap_values.specs.Sizes.{HasValueCount, IsCountOfValues}
use Rattle.round_workers.proofs.Cited.{value_few}
use Rattle.strategies.specs.Best.{IsLess}
use Rattle.strategies.proofs.Cited.{cases_value, IsLess-irrefl, document_exists, least, each_number}
use Rattle.runs.specs.Report.{Report, IsReport, IsReportOf, report_text_alone, IsReportOfText}
use Rattle.runs.specs.SolveRun.{IsSolution, IsSolved}
use Rattle.runs.specs.Texts.{IsBoardWithin, IsSmallBoard, IsWrongBoard, IsWrongWithin}
use Rattle.command_line.specs.declared.asked.BoardLimit.{BoardLimit}
use Rattle.command_line.specs.declared.asked.BoardLimit.TheVariants.{Small}
use Rattle.runs.proofs.BoardLimits.{within_or_beyond}
use Rattle.runs.specs.declared.fault.RunFault.{RunFault}
use Rattle.runs.specs.declared.fault.RunFault.TheVariants.{Board, TooLarge}

-- ---- the size of a fact

holds : {A : Type 0} → A ⊎ ¬ A → Bool
holds (inl first) = true
holds (inr second) = false

holds-true : {A : Type 0} (decided : A ⊎ ¬ A) → A ↔ (holds decided ≡ true)
unfolding holds
holds-true (inl first) = (λ _. refl, λ _. first)
holds-true (inr second) = (λ is. absurd (second is), λ same. absurd cc)

-- a fact that is decided for each number below a bound has a size there
some_size : (P : ℕ → Type 0) (bound : ℕ) → ((number : ℕ) → number < bound → P number ⊎ ¬ P number)
    → (size : ℕ) × HasSize (λ number. (number < bound) × P number) size
some_size P bound decided =
    (count_below (λ number. holds (both number)) bound, size_of _ (λ number. holds (both number)) bound says)
  where
    both : (number : ℕ) → ((number < bound) × P number) ⊎ ¬ ((number < bound) × P number)
    both number = elim (cases_lt number bound) [
      | inr beyond ↦ inr (λ is. let below : number < bound = is.0 in absurd (omega arith))
      | inl below ↦ elim (decided number below) [ inl is ↦ inl (below, is) | inr not ↦ inr (λ is. not is.1) ]
    ]

    says : (number : ℕ) → ((number < bound) × P number) ↔ ((number < bound) × (holds (both number) ≡ true))
    says number = (λ is. (is.0, (holds-true (both number)).0 is), λ is. (holds-true (both number)).1 is.1)

-- ---- the report of a board

value_or_not : (board : PlainBoard) (configuration : List ℕ) → IsConfiguration board configuration → (value : Value)
    → HasValue board configuration value ⊎ ¬ HasValue board configuration value
value_or_not board configuration is value =
    let some = some_value board configuration is in
    elim (cases_value some.0 value) [
      | inl less ↦ inr (λ has.
          IsLess-irrefl value (subst (λ (v : Value). IsLess v value)
          (same_value board configuration some.0 value some.1 has) less))
      | inr (inl same) ↦ inl (subst (HasValue board configuration) same some.1)
      | inr (inr more) ↦ inr (λ has.
          IsLess-irrefl value (subst (IsLess value) (same_value board configuration some.0 value some.1 has) more))
    ]

module _ (board : PlainBoard) where
  value_at : (value : Value) (rank : ℕ) → rank < configurations board
      → HasValue board (configuration_at board rank) value ⊎ ¬ HasValue board (configuration_at board rank) value
  value_at value rank below =
      value_or_not board (configuration_at board rank) (configuration_at_is board rank below) value

  some_count : (value : Value) → (count : ℕ) × HasValueCount board value count
  some_count value =
      some_size (λ rank. HasValue board (configuration_at board rank) value) (configurations board) (value_at value)

  occurs_or_not : (value : ℕ) → Occurs board value ⊎ ¬ Occurs board value
  occurs_or_not value =
      elim (each_or_some (λ rank. ¬ HasValue board (configuration_at board rank) (Finite value))
      (λ rank. HasValue board (configuration_at board rank) (Finite value)) (configurations board)
      (λ rank below. elim (value_at (Finite value) rank below) [ inl has ↦ inr has | inr not ↦ inl not ])) [
        | inr some ↦ inl (configuration_at board some.0, configuration_at_is board some.0 some.1, some.2)
        | inl none ↦ inr (λ occurs. none (rank_of board occurs.0) (rank_below board occurs.0 occurs.1)
            (subst (λ (c : List ℕ). HasValue board c (Finite value))
            (sym (configuration_at-rank_of board occurs.0 occurs.1)) occurs.2))
      ]

  -- a finite value that doesn't occur is above all values that do
  values_end : (number : ℕ) × IsCountOfValues board number
  values_end =
      let not_or : (value : ℕ) → (¬ Occurs board value) ⊎ ¬ ¬ Occurs board value =
      λ value. elim (occurs_or_not value) [ inl occurs ↦ inr (λ not. not occurs) | inr not ↦ inl not ] in
      let many : ℕ = suc (configurations board) in
      let none : ¬ Occurs board many = λ occurs. let few = value_few board occurs.0 many occurs.1 occurs.2 in
      absurd (omega (arith, few)) in
      let first = least (λ value. ¬ Occurs board value) not_or many many (omega arith) none in (
        first.0,
        λ value. (
          λ below. (
            value,
            omega arith,
            elim (occurs_or_not value) [ inl occurs ↦ occurs | inr not ↦ absurd (first.3 value below not) ],
          ),
          λ above. elim (cases_lt value first.0) [
            | inl below ↦ below
            | inr beyond ↦
                let more : value ≤ above.0 = above.1 in
                absurd (first.2 (smaller_occurs board first.0 above.0 (omega arith) above.2))
          ],
        ),
      )

  pub report_exists : IsConfiguration board board.start → (text : List ℕ) × IsReportOf board text
  report_exists is =
      let start = some_value board board.start is in
      let end = values_end in
      let counts = each_number (λ value count. HasValueCount board (Finite value) count) end.0
      (λ value below. some_count (Finite value)) in
      let forever = some_count Forever in
      let report : Report = record { start = start.0; counts = counts.0; forever = forever.0 } in
      let is_report : IsReport board report = record {
        start = start.1;
        counted = record {
          each = λ value inside. counts.2 value (let size : length counts.0 ≡ end.0 = counts.1 in omega arith);
          to_greatest = subst (IsCountOfValues board) (sym counts.1) end.1;
          unending = forever.1;
        };
      } in
      let is_report_of : IsReportOf board (report_text_alone board report) =
      record { report = report; is_report = is_report; text_is = refl } in
      (report_text_alone board report, is_report_of)

-- ---- texts

module _ (text : List ℕ) where
  pub solution_exists : (board : PlainBoard) → IsSmallBoard text board
      → (value : Value) × (written : List ℕ) × IsSolution text value written
  solution_exists board small =
      let value = some_value board board.start small.is_board.start in
      let document = document_exists board small.is_board.start in
      let solved : IsSolved board value.0 (proof_text board document.0) =
      record { has_value = value.1; document = document.0; is_document = document.1; text_is = refl } in
      (value.0, proof_text board document.0, (board, small, solved))

  pub report_of_text_exists : (limit : BoardLimit) (board : PlainBoard) → IsBoardWithin limit text board
      → (written : List ℕ) × IsReportOfText limit text written
  report_of_text_exists limit board within =
      let report = report_exists board within.is_board.start in (report.0, (board, within, report.1))

  pub board_or_wrong : (limit : BoardLimit) → ((board : PlainBoard) × IsBoardWithin limit text board)
      ⊎ ((fault : RunFault) × IsWrongWithin limit text fault)
  board_or_wrong limit = elim (board_or_fault text) [
    | inr (line, kind, no_memory, has) ↦ inr (Board (record { line = line; kind = kind }), (has, no_memory))
    | inl (board, is, spelled) ↦ elim (within_or_beyond limit board) [
      | inr many ↦ inr (TooLarge, (board, is, spelled, many))
      | inl few ↦ inl (board, record { is_board = is; few = few; spelled = spelled })
    ]
  ]

  pub solution_or_wrong : ((value : Value) × (written : List ℕ) × IsSolution text value written)
      ⊎ ((fault : RunFault) × IsWrongBoard text fault)
  solution_or_wrong = elim (board_or_wrong Small)
      [ inl small ↦ inl (solution_exists small.0 small.1) | inr wrong ↦ inr wrong ]

  pub report_or_wrong : (limit : BoardLimit) → ((written : List ℕ) × IsReportOfText limit text written)
      ⊎ ((fault : RunFault) × IsWrongWithin limit text fault)
  report_or_wrong limit = elim (board_or_wrong limit) [
    | inl within ↦ inl (report_of_text_exists limit within.0 within.1)
    | inr wrong ↦ inr wrong
  ]
