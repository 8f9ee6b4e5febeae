-- Steps that are told of one after the other.
use Rattle.std.proofs.Common.{◌≡◌, ◌+◌, ℕ, suc, Bool, List, [], ◌∷◌, ◌++◌, length, arith, refl, subst, sym}
use Rattle.std.specs.Prelude.{Option}
use Rattle.console.specs.Showing.{IsMore}
use Rattle.console.specs.Watching.{AreStepsTold, lines_of}
use Rattle.console.proofs.MoreTexts.{none_more, then_more}

module _ {State : Type 0} (Tells : State → State → ℕ → ℕ → Type 0) where
  pub none_told : (step : ℕ) (state : State) → AreStepsTold Tells step [] state state
  unfolding AreStepsTold
  none_told step state = refl

  pub told_more : (step : ℕ) (counts : List ℕ) (count : ℕ) (old middle new : State)
      → AreStepsTold Tells step counts old middle
      → Tells middle new (step + length counts) count → AreStepsTold Tells step (counts ++ count ∷ []) old new
  unfolding AreStepsTold
  told_more step [] count old middle new are one =
      (new, subst (λ s. Tells s new step count) are (subst (λ k. Tells middle new k count) (omega arith) one), refl)
  told_more step (first ∷ counts) count old middle new (next, tells, are) one = (
    next,
    tells,
    told_more (suc step) counts count next middle new are
        (subst (λ k. Tells middle new k count) (omega arith) one),
  )

  -- if no step was told of, nothing was told
  pub nothing_told : (step : ℕ) (counts : List ℕ) (old new : State) → length counts ≡ 0
      → AreStepsTold Tells step counts old new
      → new ≡ old
  unfolding AreStepsTold
  nothing_told step [] old new none are = are
  nothing_told step (first ∷ counts) old new none are = absurd (omega (arith, none))

-- the lines of one step after another are all lines
module _ {W : Type 0} (known : W → Option (List ℕ)) (failed : W → Bool) (line : ℕ → ℕ → List ℕ) where
  pub told_lines : (step : ℕ) (counts : List ℕ) (old new : W)
      → AreStepsTold (λ before after step count. IsMore known failed before after (line step count)) step counts old new
      → IsMore known failed old new (lines_of line step counts)
  unfolding AreStepsTold
  told_lines step [] old new same = subst (λ w. IsMore known failed old w []) (sym same) (none_more known failed old)
  told_lines step (count ∷ counts) old new (next, one, others) =
      then_more known failed old next new (line step count) (lines_of line (suc step) counts) one
      (told_lines (suc step) counts next new others)
