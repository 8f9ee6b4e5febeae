-- The steps of checking a document, in either version: which rows its rules ask for, and which faults name which row.
use Rattle.std.proofs.Common.{◌≡◌, ◌⊎◌, ℕ, suc, ◌<◌, List, Some, slice_get, sym, ◌∙◌, subst, arith, inl, inr}
use Rattle.std.proofs.lemmas.Option.{same_Some}
use Rattle.positions.specs.Table.{AnswerRow, RequestRow}
use Rattle.positions.specs.declared.claim.Claim.{Claim}
use Rattle.positions.specs.declared.claim.Claim.TheVariants.{Exactly, AtLeast, AtMost, Forever}
use Rattle.positions.specs.declared.turns.Turns.{Turns}
use Rattle.proof_text.specs.Rules.{Serves, IsListedFor, IsListedBelow, IsWanted, StartIsBelow, one_less}
use Rattle.proof_check.specs.FirstFaults.{HasRow, IsUnserved, bound_of}
use Rattle.proof_check.proofs.Steps.{IsStep, kind, narrowed, where_so, either, unserved, of_some}

-- the start is listed as the bound of the claim asks
bound_listed : (rows : List RequestRow) (start : List ℕ) (claim : Claim) (number : ℕ) → bound_of claim ≡ Some number
    → StartIsBelow rows start claim → IsListedBelow rows start (suc number)
bound_listed rows start (Exactly most) number is below =
    subst (λ n. IsListedBelow rows start (suc n)) (same_Some most number is) below
bound_listed rows start (AtMost most) number is below =
    subst (λ n. IsListedBelow rows start (suc n)) (same_Some most number is) below
bound_listed rows start (AtLeast least) number is below = absurd cc
bound_listed rows start Forever number is below = absurd cc

module _ {F : Type 0} {Names : F → Type 0} {Ready : Type 0} where
  -- a labeller's row at a request: the answer is legal, and the rows serve the turns that are left at its result
  pub request_step : {Meets : Type 0} (rows : List AnswerRow) (answers : List ℕ) (turns : Turns) (pebble : ℕ)
      (IsLegal : ℕ → Type 0) (result : ℕ → List ℕ) (illegal missing short : F)
      → (Meets → (label : ℕ) × (slice_get answers pebble ≡ Some label) × IsLegal label
      × Serves rows (result label) (one_less turns))
      → (Ready → Names illegal) → (Ready → Names missing) → (Ready → Names short)
      → IsStep Names Ready Meets (λ fault. (label : ℕ) × (slice_get answers pebble ≡ Some label)
      × ((¬ IsLegal label × (fault ≡ illegal))
      ⊎ (IsLegal label × IsWanted (one_less turns) × IsUnserved (HasRow (λ r. r.at) rows (result label))
      (IsListedFor rows (result label) (one_less turns)) missing short fault)))
  request_step {Meets} rows answers turns pebble IsLegal result illegal missing short met names at_missing at_short =
      of_some _ (slice_get answers pebble) (λ label is.
      let same = λ (meets : Meets). same_Some (met meets).0 label (sym (met meets).1 ∙ is) in
      either (kind illegal (λ no meets. no (subst IsLegal (same meets) (met meets).2)) names)
      (narrowed (λ meets. subst (λ l. Serves rows (result l) (one_less turns)) (same meets) (met meets).3)
      (λ fault w. (w.1, w.2))
      (where_so (unserved missing short (λ listed. (listed.row, listed.among, listed.at)) at_missing at_short)))
      (λ fault other a b. a.0 b.0))

  -- an adversary's row at a legal answer: its result is listed with a smaller number
  pub answer_step : {Legally : Type 0} (rows : List RequestRow) (left : ℕ) (result : List ℕ)
      (stuck missing large : F) → Legally
      → (Ready → Names stuck) → (Ready → Names missing) → (Ready → Names large)
      → IsStep Names Ready (Legally → IsListedBelow rows result left)
      (λ fault. ((left ≡ 0) × (fault ≡ stuck))
      ⊎ ((0 < left) × IsUnserved (HasRow (λ r. r.at) rows result) (IsListedBelow rows result left)
      missing large fault))
  answer_step {Legally} rows left result stuck missing large legal names at_missing at_large =
      either (kind stuck none_below names)
      (narrowed (λ meets. meets legal) (λ fault w. w.1)
      (unserved missing large (λ listed. (listed.row, listed.among, listed.at)) at_missing at_large))
      (λ fault other a b. omega (arith, a.0, b.0))
    where
      none_below : left ≡ 0 → ¬ (Legally → IsListedBelow rows result left)
      none_below zero meets =
          let below : (meets legal).row.left < left = (meets legal).below in omega (arith, below, zero)

  -- the start's number in the labeller's rows
  pub start_step : (rows : List AnswerRow) (start : List ℕ) (wanted : Turns) (missing short : F)
      → (Ready → Names missing) → (Ready → Names short)
      → IsStep Names Ready (Serves rows start wanted)
      (λ fault. IsWanted wanted × IsUnserved (HasRow (λ r. r.at) rows start) (IsListedFor rows start wanted)
      missing short fault)
  start_step rows start wanted missing short at_missing at_short =
      where_so (unserved missing short (λ listed. (listed.row, listed.among, listed.at)) at_missing at_short)

  -- the start's number in the adversary's rows
  pub bound_step : (rows : List RequestRow) (start : List ℕ) (claim : Claim) (missing large : F)
      → (Ready → Names missing) → (Ready → Names large)
      → IsStep Names Ready (StartIsBelow rows start claim)
      (λ fault. (number : ℕ) × (bound_of claim ≡ Some number)
      × IsUnserved (HasRow (λ r. r.at) rows start) (IsListedBelow rows start (suc number)) missing large fault)
  bound_step rows start claim missing large at_missing at_large = of_some _ (bound_of claim) (λ number is.
      narrowed (bound_listed rows start claim number is) (λ fault w. w)
      (unserved missing large (λ listed. (listed.row, listed.among, listed.at)) at_missing at_large))

  -- the whole document, in the order of checking: the start's two numbers, and then the rows of both sides
  pub document_step : {Serving Bounded Starts Labeller Adversary Whole : Type 0}
      {Start Bound Answer Request : F → Type 0} → (Starts → Serving) → (Starts → Bounded)
      → (Whole → Serving) → (Whole → Bounded) → (Whole → Labeller) → (Whole → Adversary)
      → IsStep Names Ready Serving Start → IsStep Names Ready Bounded Bound
      → IsStep Names Ready Labeller Answer → IsStep Names Ready Adversary Request
      → IsStep Names Ready Whole (λ fault. Start fault ⊎ (Serving × Bound fault) ⊎ (Starts × Answer fault)
      ⊎ (Starts × Labeller × Request fault))
  document_step {Serving} {Bounded} {Starts} {Labeller} {Adversary} {Whole} {Start} {Bound} {Answer} {Request}
      serving_of bounded_of serving bounded labeller adversary start bound answer request =
      either (narrowed serving (λ fault w. w) start)
      (either (narrowed bounded (λ fault w. w.1) bound)
      (either (narrowed labeller (λ fault w. w.1) answer)
      (narrowed adversary (λ fault w. w.2) request)
      (λ fault other a b. answer.apart fault a.1 b.1))
      (λ fault other a b. bound.apart fault a.1 (bounded_of (starts_of other b))))
      (λ fault other a b. start.apart fault a (serves_of other b))
    where
      starts_of : (fault : F) → (Starts × Answer fault) ⊎ (Starts × Labeller × Request fault) → Starts
      starts_of fault (inl (starts, w)) = starts
      starts_of fault (inr (starts, obeys, w)) = starts

      serves_of : (fault : F)
          → (Serving × Bound fault) ⊎ ((Starts × Answer fault) ⊎ (Starts × Labeller × Request fault)) → Serving
      serves_of fault (inl (serves, w)) = serves
      serves_of fault (inr rows) = serving_of (starts_of fault rows)
