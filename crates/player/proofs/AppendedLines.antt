-- Texts that were appended to others.
use Rattle.std.proofs.Common.{◌≡◌, ℕ, List, ◌++◌, sym, subst}
use Rattle.std.specs.Prelude.{Option, Result, Ok, Err, IfOk}
use Rattle.player.specs.Inside.Steps.{AddsText}
use Rattle.player.specs.declared.end.PlayEnd.{PlayEnd}

-- a line that comes with an end, or with none
pub says_line : {E : Type 0} (result : Result (Option PlayEnd) E) (old new line : List ℕ) (expected : Option PlayEnd)
    (IsRight : Option PlayEnd → List ℕ → Type 0)
    → IfOk result (λ end. (end ≡ expected) × (new ≡ old ++ line)) → IsRight expected line
    → IfOk result (λ end. AddsText old new (IsRight end))
says_line {E} (Ok end) old new line expected IsRight said right =
    (line, said.1, subst (λ e. IsRight e line) (sym said.0) right)
says_line {E} (Err fault) old new line expected IsRight said right = tt
