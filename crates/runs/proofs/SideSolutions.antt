-- Solutions for one side alone: a text has one of them or one fault.
use Rattle.std.proofs.Common.{◌≡◌, ◌⊎◌, ℕ, List, Some, length, refl, sym, ap, ◌∙◌, subst, inl, inr, arith}
use Rattle.std.proofs.lemmas.Bool.{cases_lt}
use Rattle.board_text.specs.PlainBoard.{PlainBoard}
use Rattle.board_text.proofs.Cited.{one_board}
use Rattle.command_line.specs.declared.asked.BoardLimit.{BoardLimit}
use Rattle.command_line.specs.declared.asked.BoardLimit.TheVariants.{Small, Large}
use Rattle.positions.specs.Value.{HasValue}
use Rattle.positions.specs.declared.side.Side.{Side}
use Rattle.positions.specs.declared.side.Side.TheVariants.{Adversary, Labeller}
use Rattle.positions.specs.declared.value.Value.{Value}
use Rattle.positions.specs.declared.value.Value.TheVariants.{Finite, Forever}
use Rattle.positions.proofs.Cited.{same_value, some_value}
use Rattle.proof_text.specs.ProofText.{class_text, proof_text}
use Rattle.strategies.specs.Sides.{HasStrategy, document_for}
use Rattle.strategies.proofs.Cited.{class_document_exists, document_exists, one_class_document, one_document}
use Rattle.runs.specs.SideSolveRun.{IsLongFor, IsSideSolution, IsTextFor, IsUnsolvedFor}
use Rattle.runs.specs.Texts.{IsBoardWithin, IsWrongWithin}
use Rattle.runs.specs.declared.checking.TheConstants.{MAX_PROOF_BYTES}
use Rattle.runs.specs.declared.fault.RunFault.{RunFault}
use Rattle.runs.specs.declared.fault.RunFault.TheVariants.{DocumentTooLarge, LastsForever}
use Rattle.runs.proofs.AcceptedDocuments.{not_wrong}
use Rattle.runs.proofs.OneOutcome.{one_wrong}
use Rattle.runs.proofs.Solutions.{board_or_wrong}

-- a board has one text for the side
one_text : (limit : BoardLimit) (side : Side) (board : PlainBoard) (first second : List ℕ)
    → IsTextFor limit side board first → IsTextFor limit side board second → first ≡ second
one_text Small side board first second (one, is, spelled) (other, is_too, spelled_too) =
    spelled ∙ ap (λ d. proof_text board (document_for (Some side) d)) (one_document board one other is is_too)
    ∙ sym spelled_too
one_text Large side board first second ((one, (document, is, for), spelled), short)
    ((other, (another, is_too, for_too), spelled_too), short_too) =
    spelled ∙ ap (class_text board) (for ∙ ap (document_for (Some side))
    (one_class_document board document another is is_too) ∙ sym for_too) ∙ sym spelled_too

-- and it is short, or the document is too long
short_or_long : (side : Side) (board : PlainBoard) (text : List ℕ) → IsTextFor Large side board text
    → IsLongFor side board → ⊥
short_or_long side board text ((proof, (document, is, for), spelled), short) long =
    let same : long.long.0 ≡ document = one_class_document board long.long.0 document long.long.1 is in
    let size : length text ≡ length (class_text board (document_for (Some side) long.long.0)) =
    ap length (spelled ∙ ap (class_text board) (for ∙ ap (document_for (Some side)) (sym same))) in
    absurd (omega (arith, size, long.long.2, short))

some_limit : (limit : BoardLimit) (side : Side) (board : PlainBoard) (text : List ℕ) → limit ≡ Large
    → IsTextFor limit side board text → IsLongFor side board → ⊥
some_limit limit side board text same is long =
    short_or_long side board text (subst (λ l. IsTextFor l side board text) same is) long

no_strategy : (side : Side) (value : Value) → side ≡ Adversary → value ≡ Forever → HasStrategy (Some side) value → ⊥
no_strategy side value is lasts strategy =
    subst (λ v. HasStrategy (Some Adversary) v) lasts (subst (λ s. HasStrategy (Some s) value) is strategy)

-- whether the side has a strategy on the value
strategy_or_not : (side : Side) (value : Value)
    → HasStrategy (Some side) value ⊎ ((side ≡ Adversary) × (value ≡ Forever))
strategy_or_not Labeller value = inl tt
strategy_or_not Adversary (Finite number) = inl tt
strategy_or_not Adversary Forever = inr (refl, refl)

module _ (limit : BoardLimit) (side : Side) (text : List ℕ) where
  -- the text is that of one board at most
  same_board : (first second : PlainBoard) → IsBoardWithin limit text first → IsBoardWithin limit text second
      → second ≡ first
  same_board first second one other =
      one_board second first other.is_board one.is_board (sym other.spelled ∙ one.spelled)

  pub one_side_solution : (value worth : Value) (first second : List ℕ) → IsSideSolution limit side text value first
      → IsSideSolution limit side text worth second → (value ≡ worth) × (first ≡ second)
  one_side_solution value worth first second one other =
      let board = one.board in
      let same : other.board ≡ board = same_board board other.board one.within other.within in (
        same_value board board.start value worth one.has_value
            (subst (λ (b : PlainBoard). HasValue b b.start worth) same other.has_value),
        one_text limit side board first second one.written_is
            (subst (λ (b : PlainBoard). IsTextFor limit side b second) same other.written_is),
      )

  -- a fault is that of the side, that of the document, or that of the text
  record IsOfSide (fault : RunFault) : Type 0 where
    told : fault ≡ LastsForever
    is : IsUnsolvedFor limit side text LastsForever

  record IsOfDocument (fault : RunFault) : Type 0 where
    told : fault ≡ DocumentTooLarge
    is : IsUnsolvedFor limit side text DocumentTooLarge

  fault_is : (fault : RunFault) → IsUnsolvedFor limit side text fault
      → IsOfSide fault ⊎ IsOfDocument fault ⊎ IsWrongWithin limit text fault
  fault_is LastsForever h = inl (record { told = refl; is = h })
  fault_is DocumentTooLarge h = inr (inl (record { told = refl; is = h }))
  fault_is fault h = inr (inr h)

  -- a start from which requests are answered for ever has no strategy for the adversary
  no_value : (board other : PlainBoard) (value : Value) → IsBoardWithin limit text board
      → IsBoardWithin limit text other → HasValue board board.start value → HasStrategy (Some side) value
      → side ≡ Adversary → HasValue other other.start Forever → ⊥
  no_value board other value within within_too has strategy is lasts =
      no_strategy side value is (same_value board board.start value Forever has
      (subst (λ (b : PlainBoard). HasValue b b.start Forever) (same_board board other within within_too) lasts))
      strategy

  pub side_solution_or_fault : (value : Value) (written : List ℕ) (fault : RunFault)
      → IsSideSolution limit side text value written → IsUnsolvedFor limit side text fault → ⊥
  side_solution_or_fault value written fault solution bad = elim (fault_is fault bad) [
    | inl of_side ↦
        no_value solution.board of_side.is.1.0 value solution.within of_side.is.1.1 solution.has_value
        solution.strategy of_side.is.0 of_side.is.1.2
    | inr (inl of_document) ↦
        some_limit limit side solution.board written of_document.is.0 solution.written_is
        (subst (IsLongFor side) (same_board solution.board of_document.is.1.0 solution.within of_document.is.1.1)
        of_document.is.1.2)
    | inr (inr wrong) ↦ not_wrong limit text solution.board solution.within fault wrong
  ]

  -- the side has no strategy, or a document that is too long, but not both
  side_or_document : (first second : RunFault) → IsOfSide first → IsOfDocument second → ⊥
  side_or_document first second of_side of_document =
      let long = of_document.is.1.2 in
      no_value of_document.is.1.0 of_side.is.1.0 long.value of_document.is.1.1 of_side.is.1.1 long.has_value
      long.strategy of_side.is.0 of_side.is.1.2

  pub one_unsolved_for : (fault other : RunFault) → IsUnsolvedFor limit side text fault
      → IsUnsolvedFor limit side text other → fault ≡ other
  one_unsolved_for fault other bad also = elim (fault_is fault bad) [
    | inl of_side ↦ elim (fault_is other also) [
      | inl too ↦ of_side.told ∙ sym too.told
      | inr (inl of_document) ↦ absurd (side_or_document fault other of_side of_document)
      | inr (inr wrong) ↦ absurd (not_wrong limit text of_side.is.1.0 of_side.is.1.1 other wrong)
    ]
    | inr (inl of_document) ↦ elim (fault_is other also) [
      | inl of_side ↦ absurd (side_or_document other fault of_side of_document)
      | inr (inl too) ↦ of_document.told ∙ sym too.told
      | inr (inr wrong) ↦ absurd (not_wrong limit text of_document.is.1.0 of_document.is.1.1 other wrong)
    ]
    | inr (inr wrong) ↦ elim (fault_is other also) [
      | inl of_side ↦ absurd (not_wrong limit text of_side.is.1.0 of_side.is.1.1 fault wrong)
      | inr (inl of_document) ↦
          absurd (not_wrong limit text of_document.is.1.0 of_document.is.1.1 fault wrong)
      | inr (inr wrong_too) ↦ one_wrong limit text fault other wrong wrong_too
    ]
  ]

  -- ---- each text has one

  wrong_unsolved : (fault : RunFault) → IsWrongWithin limit text fault → IsUnsolvedFor limit side text fault
  wrong_unsolved DocumentTooLarge wrong = absurd wrong
  wrong_unsolved LastsForever wrong = absurd wrong
  wrong_unsolved fault wrong = wrong

  abbrev IsEither : Type 0
  IsEither = ((value : Value) × (written : List ℕ) × IsSideSolution limit side text value written)
      ⊎ ((fault : RunFault) × IsUnsolvedFor limit side text fault)

  solved_with : (board : PlainBoard) (value : Value) (written : List ℕ) → IsBoardWithin limit text board
      → HasValue board board.start value → HasStrategy (Some side) value → IsTextFor limit side board written
      → IsEither
  solved_with board value written within has strategy is = inl (
    value,
    written,
    record {
      board = board;
      within = within;
      has_value = has;
      strategy = strategy;
      written_is = is;
    },
  )

  solved_or_long : (board : PlainBoard) (value : Value) → IsBoardWithin limit text board
      → HasValue board board.start value → HasStrategy (Some side) value → IsEither
  solved_or_long board value within has strategy = by limit refl
    where
      by : (other : BoardLimit) → limit ≡ other → IsEither
      by Small same =
          let document = document_exists board within.is_board.start in
          solved_with board value (proof_text board (document_for (Some side) document.0)) within has strategy
          (subst (λ l. IsTextFor l side board (proof_text board (document_for (Some side) document.0))) (sym same)
          (document.0, document.1, refl))
      by Large same =
          let document = class_document_exists board within.is_board.start in
          let written : List ℕ = class_text board (document_for (Some side) document.0) in
          elim (cases_lt MAX_PROOF_BYTES (length written)) [
            | inl long ↦ inr (
              DocumentTooLarge,
              (
                same,
                (
                  board,
                  within,
                  record {
                    value = value;
                    has_value = has;
                    strategy = strategy;
                    long = (document.0, document.1, long);
                  },
                ),
              ),
            )
            | inr short ↦ solved_with board value written within has strategy
                (subst (λ l. IsTextFor l side board written) (sym same)
                ((document_for (Some side) document.0, (document.0, document.1, refl), refl), omega (arith, short)))
          ]

  pub side_solution_or_unsolved : IsEither
  side_solution_or_unsolved = elim (board_or_wrong text limit) [
    | inl (board, within) ↦
        let value = some_value board board.start within.is_board.start in
        elim (strategy_or_not side value.0) [
          | inl strategy ↦ solved_or_long board value.0 within value.1 strategy
          | inr (adversary, lasts) ↦ inr (
            LastsForever,
            (
              adversary,
              (
                board,
                within,
                subst (λ v. HasValue board board.start v) lasts value.1,
              ),
            ),
          )
        ]
    | inr wrong ↦ inr (wrong.0, wrong_unsolved wrong.0 wrong.1)
  ]
