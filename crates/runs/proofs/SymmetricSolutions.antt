-- Solutions up to symmetries: a text of symmetries gives one of them or one fault, and a check accepts it.
use Rattle.std.proofs.Common.{◌≡◌, ◌⊎◌, ℕ, List, [], Option, Some, None, length, refl, sym, ap, ◌∙◌, subst}
use Rattle.std.proofs.Common.{inl, inr, arith}
use Rattle.std.specs.List.{All}
use Rattle.std.proofs.lemmas.Bool.{cases_lt}
use Rattle.board_text.specs.PlainBoard.{PlainBoard, IsBoard}
use Rattle.orbits.specs.OrbitsUpTo.{HasManyOrbitsUpTo}
use Rattle.orbits.proofs.Cited.{few_and_many, few_or_many_up_to}
use Rattle.positions.specs.Value.{HasValue}
use Rattle.positions.specs.declared.claim.Claim.TheVariants as claims
use Rattle.positions.specs.declared.side.Side.{Side}
use Rattle.positions.specs.declared.side.Side.TheVariants.{Adversary, Labeller}
use Rattle.positions.specs.declared.value.Value.{Value}
use Rattle.positions.specs.declared.value.Value.TheVariants.{Finite, Forever}
use Rattle.positions.proofs.Cited.{same_value, some_value}
use Rattle.proof_check.specs.SymmetryFaults.{IsFirstWrongMap}
use Rattle.proof_check.specs.declared.symmetry_fault.SymmetryFault.{SymmetryFault}
use Rattle.proof_check.specs.declared.symmetry_fault.SymmetryFault.TheVariants as check_faults
use Rattle.proof_check.proofs.Cited.{one_symmetry_fault, wrong_map_apart}
use Rattle.proof_text.specs.ProofText.{symmetry_text}
use Rattle.proof_text.specs.SymmetryProof.{PlainSymmetryProof}
use Rattle.proof_text.specs.declared.fault.ProofFault.{ProofFault}
use Rattle.proof_text.proofs.Cited.{no_symmetries_fault, one_symmetries, one_symmetries_fault}
use Rattle.strategies.specs.Sides.{HasStrategy}
use Rattle.strategies.specs.SymmetricDocument.{IsSymmetryDocumentFor, symmetric_document_for}
use Rattle.strategies.proofs.Cited.{one_symmetry_document, symmetry_document_exists}
use Rattle.symmetries.specs.ClosingLoop.{HasLargeGroup}
use Rattle.symmetries.specs.Symmetries.{IsSymmetry}
use Rattle.symmetries.specs.declared.maps.MapFault.{MapFault}
use Rattle.runs.specs.SymmetricSolveRun.{IsLongUpTo, IsSolutionUpTo, IsSolvedUpTo, IsUnsolvedUpTo}
use Rattle.runs.specs.SymmetricRun.{GivesFewOrbits, LacksFewOrbits, SpellsFewOrbits}
use Rattle.runs.specs.Symmetries.{AreWrongSymmetries, HasSymmetries, SpellsMaps, SpellsSymmetries}
use Rattle.runs.specs.declared.checking.TheConstants.{MAX_PROOF_BYTES}
use Rattle.runs.specs.declared.fault.RunFault.{RunFault}
use Rattle.runs.specs.declared.fault.RunFault.TheVariants.{DocumentTooLarge, LastsForever, Symmetries, TooManyOrbits}
use Rattle.runs.specs.declared.fault.SymmetriesFault.{SymmetriesFault}
use Rattle.runs.specs.declared.fault.SymmetriesFault.TheVariants.{Map, Text, TooMany}

no_strategy : (side : Option Side) (value : Value) → side ≡ Some Adversary → value ≡ Forever → HasStrategy side value
    → ⊥
no_strategy side value is lasts strategy =
    subst (λ v. HasStrategy (Some Adversary) v) lasts (subst (λ s. HasStrategy s value) is strategy)

-- whether the side has a strategy on the value
strategy_or_not : (side : Option Side) (value : Value)
    → HasStrategy side value ⊎ ((side ≡ Some Adversary) × (value ≡ Forever))
strategy_or_not None value = inl tt
strategy_or_not (Some Labeller) value = inl tt
strategy_or_not (Some Adversary) (Finite number) = inl tt
strategy_or_not (Some Adversary) Forever = inr (refl, refl)

-- the fault of maps, by that of a check
abbrev fault_of_maps : SymmetryFault → SymmetriesFault
fault_of_maps (check_faults.Map number fault) = Map number fault
fault_of_maps fault = TooMany

module _ (board : PlainBoard) (is_board : IsBoard board) (text : List ℕ) where
  -- the text is that of one list of maps at most
  same_maps : (maps others : List (List ℕ)) → SpellsMaps board text maps → SpellsMaps board text others
      → others ≡ maps
  same_maps maps others one other =
      one_symmetries board others maps is_board other.are_maps one.are_maps (sym other.spelled ∙ one.spelled)

  -- ---- a text of symmetries, or one with a fault

  no_text_fault : (maps : List (List ℕ)) (fault : ProofFault) → SpellsMaps board text maps
      → AreWrongSymmetries board text (Text fault) → ⊥
  no_text_fault maps fault spells (has, some) =
      some (no_symmetries_fault board text fault.line fault.kind maps is_board spells.are_maps spells.spelled has)

  not_wrong_maps : (maps : List (List ℕ)) → SpellsSymmetries board text maps → (why : SymmetriesFault)
      → AreWrongSymmetries board text why → ⊥
  not_wrong_maps maps spells (Text fault) wrong = no_text_fault maps fault spells.spells wrong
  not_wrong_maps maps spells (Map number fault) (others, is, wrong) =
      wrong_map_apart board maps number fault
      (subst (λ m. IsFirstWrongMap board m number fault) (same_maps maps others spells.spells is) wrong)
      spells.are_made.symmetries
  not_wrong_maps maps spells TooMany (others, is, each, large) =
      let more = subst (HasLargeGroup board.labels) (same_maps maps others spells.spells is) large spells.group
      spells.are_made.are_group in
      absurd (omega (arith, more, spells.are_made.few))

  -- one of two faults of maps
  module _ (maps : List (List ℕ)) where
    -- a document with these maps
    abbrev document : PlainSymmetryProof
    document = record { maps = maps; rows = record { claim = claims.Forever; labeller = []; adversary = [] } }

    one_map_fault : (number other : ℕ) (fault next : MapFault) → IsFirstWrongMap board maps number fault
        → IsFirstWrongMap board maps other next → ◌≡◌ {A = SymmetriesFault} (Map number fault) (Map other next)
    one_map_fault number other fault next wrong also =
        ap fault_of_maps (one_symmetry_fault board document
        (record {
          labeller = λ k d low. absurd (omega (arith, low));
          adversary = λ k d low. absurd (omega (arith, low));
        })
        is_board.start (check_faults.Map number fault) (check_faults.Map other next) (λ e. cc) (λ e. cc) wrong also)

  one_wrong : (why other : SymmetriesFault) → AreWrongSymmetries board text why → AreWrongSymmetries board text other
      → why ≡ other
  one_wrong (Text fault) (Text other) wrong also =
      let same = one_symmetries_fault board text fault.line other.line fault.kind other.kind is_board wrong.1 also.1
      wrong.0 also.0 in
      let told : ◌≡◌ {A = ProofFault} (record { line = fault.line; kind = fault.kind }) other =
      rw (same.0, same.1) refl in
      ap Text told
  one_wrong (Text fault) (Map number other) wrong (maps, is, more) = absurd (no_text_fault maps fault is wrong)
  one_wrong (Text fault) TooMany wrong (maps, is, each, large) = absurd (no_text_fault maps fault is wrong)
  one_wrong (Map number fault) (Text other) (maps, is, more) also = absurd (no_text_fault maps other is also)
  one_wrong (Map number fault) (Map there other) (maps, is, wrong) (others, is_too, also) =
      one_map_fault maps number there fault other wrong
      (subst (λ m. IsFirstWrongMap board m there other) (same_maps maps others is is_too) also)
  one_wrong (Map number fault) TooMany (maps, is, wrong) (others, is_too, each, large) =
      absurd (wrong_map_apart board maps number fault wrong
      (subst (All (IsSymmetry board)) (same_maps maps others is is_too) each))
  one_wrong TooMany (Text other) (maps, is, each, large) also = absurd (no_text_fault maps other is also)
  one_wrong TooMany (Map number fault) (maps, is, each, large) (others, is_too, wrong) =
      absurd (wrong_map_apart board maps number fault
      (subst (λ m. IsFirstWrongMap board m number fault) (same_maps maps others is is_too) wrong) each)
  one_wrong TooMany TooMany wrong also = refl

  -- ---- few orbits, or the fault of the text

  record IsOfOrbits (fault : RunFault) : Type 0 where
    told : fault ≡ TooManyOrbits
    is : LacksFewOrbits board text TooManyOrbits

  record IsOfSymmetries (fault : RunFault) : Type 0 where
    why : SymmetriesFault
    told : fault ≡ Symmetries why
    is : AreWrongSymmetries board text why

  abbrev IsLacking : RunFault → Type 0
  IsLacking fault = IsOfOrbits fault ⊎ IsOfSymmetries fault

  lacking_is : (fault : RunFault) → LacksFewOrbits board text fault → IsLacking fault
  lacking_is TooManyOrbits h = inl (record { told = refl; is = h })
  lacking_is (Symmetries why) h = inr (record { why = why; told = refl; is = h })
  lacking_is fault h = absurd h

  -- few orbits up to these maps, and too many up to those of the same text
  not_many : (maps : List (List ℕ)) → SpellsFewOrbits board text maps → LacksFewOrbits board text TooManyOrbits → ⊥
  not_many maps (spells, few) (others, also, many) =
      few_and_many board maps spells.are_made.symmetries few
      (subst (HasManyOrbitsUpTo board) (same_maps maps others spells.spells also.spells) many)

  -- few orbits and no fault of the text
  no_others : (maps : List (List ℕ)) → SpellsFewOrbits board text maps → (fault : RunFault) → IsLacking fault → ⊥
  no_others maps few fault (inl of_orbits) = not_many maps few of_orbits.is
  no_others maps few fault (inr wrong) = not_wrong_maps maps few.0 wrong.why wrong.is

  pub given_or_lacking : (fault : RunFault) → GivesFewOrbits board text → LacksFewOrbits board text fault → ⊥
  given_or_lacking fault (maps, few) lacks = no_others maps few fault (lacking_is fault lacks)

  one_of_lacking : (fault other : RunFault) → IsLacking fault → IsLacking other → fault ≡ other
  one_of_lacking fault other (inl many) (inl too) = many.told ∙ sym too.told
  one_of_lacking fault other (inl many) (inr wrong) =
      absurd (not_wrong_maps many.is.0 many.is.1 wrong.why wrong.is)
  one_of_lacking fault other (inr wrong) (inl many) =
      absurd (not_wrong_maps many.is.0 many.is.1 wrong.why wrong.is)
  one_of_lacking fault other (inr wrong) (inr too) =
      wrong.told ∙ ap Symmetries (one_wrong wrong.why too.why wrong.is too.is) ∙ sym too.told

  pub one_lacking : (fault other : RunFault) → LacksFewOrbits board text fault → LacksFewOrbits board text other
      → fault ≡ other
  one_lacking fault other lacks also =
      one_of_lacking fault other (lacking_is fault lacks) (lacking_is other also)

  -- symmetries of the domain leave few orbits, or too many
  pub few_orbits_or_many : HasSymmetries board text
      → GivesFewOrbits board text ⊎ LacksFewOrbits board text TooManyOrbits
  few_orbits_or_many (maps, spells) =
      let made = spells.are_made in
      elim (few_or_many_up_to board maps made.symmetries spells.group made.are_group) [
        | inl few ↦ inl (maps, (spells, few))
        | inr many ↦ inr (maps, spells, many)
      ]

  -- ---- one solution

  module _ (side : Option Side) where
    one_document : (maps : List (List ℕ)) → All (IsSymmetry board) maps → (first second : PlainSymmetryProof)
        → IsSymmetryDocumentFor side board maps first → IsSymmetryDocumentFor side board maps second → first ≡ second
    one_document maps each first second (one, is, for) (other, is_too, for_too) =
        for ∙ ap (symmetric_document_for side)
        (one_symmetry_document board maps is_board.start each one other is is_too) ∙ sym for_too

    pub one_symmetric_solution : (value worth : Value) (first second : List ℕ)
        → IsSolutionUpTo side board text value first → IsSolutionUpTo side board text worth second
        → (value ≡ worth) × (first ≡ second)
    one_symmetric_solution value worth first second (maps, spells, one) (others, spells_too, other) =
        let also : IsSolvedUpTo side board maps worth second =
        subst (λ m. IsSolvedUpTo side board m worth second)
        (same_maps maps others spells.0.spells spells_too.0.spells) other in
        let same : one.document ≡ also.document =
        one_document maps spells.0.are_made.symmetries one.document also.document one.is_document also.is_document in (
          same_value board board.start value worth one.has_value also.has_value,
          one.written_is ∙ ap (symmetry_text board) same ∙ sym also.written_is,
        )

    -- ---- a solution, or a fault

    record IsOfSide (fault : RunFault) : Type 0 where
      told : fault ≡ LastsForever
      is : IsUnsolvedUpTo side board text LastsForever

    record IsOfDocument (fault : RunFault) : Type 0 where
      told : fault ≡ DocumentTooLarge
      is : IsUnsolvedUpTo side board text DocumentTooLarge

    fault_is : (fault : RunFault) → IsUnsolvedUpTo side board text fault
        → IsOfSide fault ⊎ IsOfDocument fault ⊎ IsLacking fault
    fault_is LastsForever h = inl (record { told = refl; is = h })
    fault_is DocumentTooLarge h = inr (inl (record { told = refl; is = h }))
    fault_is TooManyOrbits h = inr (inr (lacking_is TooManyOrbits h))
    fault_is (Symmetries why) h = inr (inr (lacking_is (Symmetries why) h))
    fault_is fault h = absurd h

    no_value : (value : Value) → HasValue board board.start value → HasStrategy side value → side ≡ Some Adversary
        → HasValue board board.start Forever → ⊥
    no_value value has strategy is lasts =
        no_strategy side value is (same_value board board.start value Forever has lasts) strategy

    short_or_long : (maps : List (List ℕ)) (value : Value) (written : List ℕ) → All (IsSymmetry board) maps
        → IsSolvedUpTo side board maps value written → IsLongUpTo side board maps → ⊥
    short_or_long maps value written each solved long =
        let whole : PlainSymmetryProof = symmetric_document_for side long.long.0 in
        let same : whole ≡ solved.document =
        one_document maps each whole solved.document (long.long.0, long.long.1, refl) solved.is_document in
        let size : length written ≡ length (symmetry_text board whole) =
        ap length (solved.written_is ∙ ap (symmetry_text board) (sym same)) in
        absurd (omega (arith, size, long.long.2, solved.short))

    pub symmetric_solution_or_fault : (value : Value) (written : List ℕ) (fault : RunFault)
        → IsSolutionUpTo side board text value written → IsUnsolvedUpTo side board text fault → ⊥
    symmetric_solution_or_fault value written fault (maps, few, solved) bad =
        let spells = few.0 in
        elim (fault_is fault bad) [
          | inl of_side ↦ no_value value solved.has_value solved.strategy of_side.is.2 of_side.is.3
          | inr (inl of_document) ↦
              short_or_long maps value written spells.are_made.symmetries solved
              (subst (IsLongUpTo side board) (same_maps maps of_document.is.0 spells.spells of_document.is.1.0.spells)
              of_document.is.2)
          | inr (inr lacking) ↦ no_others maps few fault lacking
        ]

    -- a side without a strategy, and a document for it
    side_or_long : IsUnsolvedUpTo side board text LastsForever → IsUnsolvedUpTo side board text DocumentTooLarge → ⊥
    side_or_long of_side of_document =
        let long = of_document.2 in
        no_value long.value long.has_value long.strategy of_side.2 of_side.3

    pub one_unsolved_up_to : (fault other : RunFault) → IsUnsolvedUpTo side board text fault
        → IsUnsolvedUpTo side board text other → fault ≡ other
    one_unsolved_up_to fault other bad also = elim (fault_is fault bad) [
      | inl of_side ↦ elim (fault_is other also) [
        | inl too ↦ of_side.told ∙ sym too.told
        | inr (inl of_document) ↦ absurd (side_or_long of_side.is of_document.is)
        | inr (inr none) ↦ absurd (no_others of_side.is.0 of_side.is.1 other none)
      ]
      | inr (inl of_document) ↦ elim (fault_is other also) [
        | inl of_side ↦ absurd (side_or_long of_side.is of_document.is)
        | inr (inl too) ↦ of_document.told ∙ sym too.told
        | inr (inr none) ↦ absurd (no_others of_document.is.0 of_document.is.1 other none)
      ]
      | inr (inr none) ↦ elim (fault_is other also) [
        | inl of_side ↦ absurd (no_others of_side.is.0 of_side.is.1 fault none)
        | inr (inl of_document) ↦ absurd (no_others of_document.is.0 of_document.is.1 fault none)
        | inr (inr too) ↦ one_of_lacking fault other none too
      ]
    ]

    abbrev IsEither : Type 0
    IsEither = ((value : Value) × (written : List ℕ) × IsSolutionUpTo side board text value written)
        ⊎ ((fault : RunFault) × IsUnsolvedUpTo side board text fault)

    solved_or_long : (maps : List (List ℕ)) (value : Value) → SpellsFewOrbits board text maps
        → HasValue board board.start value → HasStrategy side value → IsEither
    solved_or_long maps value few has strategy =
        let spells = few.0 in
        let document = symmetry_document_exists board maps is_board.start spells.are_made.symmetries spells.group
        spells.are_made.are_group in
        let whole : PlainSymmetryProof = symmetric_document_for side document.0 in
        elim (cases_lt MAX_PROOF_BYTES (length (symmetry_text board whole))) [
          | inl long ↦
              let is_long : IsLongUpTo side board maps = record {
                value = value;
                has_value = has;
                strategy = strategy;
                long = (document.0, document.1, long);
              } in
              inr (DocumentTooLarge, (maps, few, is_long))
          | inr short ↦
              let solved : IsSolvedUpTo side board maps value (symmetry_text board whole) = record {
                has_value = has;
                strategy = strategy;
                document = whole;
                is_document = (document.0, document.1, refl);
                written_is = refl;
                short = omega (arith, short);
              } in
              inl (value, symmetry_text board whole, (maps, few, solved))
        ]

    of_few_orbits : (maps : List (List ℕ)) → SpellsFewOrbits board text maps → IsEither
    of_few_orbits maps few =
        let value = some_value board board.start is_board.start in
        elim (strategy_or_not side value.0) [
          | inl strategy ↦ solved_or_long maps value.0 few value.1 strategy
          | inr (adversary, lasts) ↦ inr (
            LastsForever,
            (maps, few, adversary, subst (λ v. HasValue board board.start v) lasts value.1),
          )
        ]

    pub symmetric_solution_or_unsolved : HasSymmetries board text → IsEither
    symmetric_solution_or_unsolved has = elim (few_orbits_or_many has) [
      | inl (maps, few) ↦ of_few_orbits maps few
      | inr many ↦ inr (TooManyOrbits, many)
    ]
