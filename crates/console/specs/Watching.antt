-- What is told of the steps of a long work.
use Rattle.std.specs.Prelude.{◌≡◌, ℕ, suc, List, [], ◌∷◌, ◌++◌}

-- steps from one on were told of, one after the other, each with its count: `Tells` is what is told
-- of one, from a state before to a state after
unfoldable pub AreStepsTold : {State : Type 0} → (State → State → ℕ → ℕ → Type 0) → ℕ → List ℕ →
    State
    → State → Type 0
AreStepsTold Tells step [] old new = new ≡ old
AreStepsTold {State} Tells step (count ∷ counts) old new =
    (next : State) × Tells old next step count × AreStepsTold Tells (suc step) counts next new

-- the lines of the steps from one on, by the line of a step and its count
abbrev pub lines_of : (ℕ → ℕ → List ℕ) → ℕ → List ℕ → List ℕ
lines_of line step [] = []
lines_of line step (count ∷ counts) = line step count ++ lines_of line (suc step) counts
