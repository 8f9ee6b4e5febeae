-- The turns that a row leaves after a request, by values.
use Rattle.std.proofs.Common.{◌≡◌, suc, ◌≤◌, refl, arith}
use Rattle.positions.specs.declared.value.Value.{Value}
use Rattle.positions.specs.declared.value.Value.TheVariants.{Finite, Forever}
use Rattle.proof_text.specs.Rules.{IsEnough, IsWanted, one_less, wanted_of}
use Rattle.strategies.specs.Best.{IsLess}
use Rattle.strategies.specs.PositionDocument.{turns_of}
use Rattle.positions.specs.Claim.{claim_of}

-- the second value is at most one smaller than the first
abbrev pub Keeps : Value → Value → Type 0
Keeps (Finite value) (Finite after) = value ≤ suc after
Keeps (Finite value) Forever = Unit {0}
Keeps Forever (Finite after) = ⊥
Keeps Forever Forever = Unit {0}

-- if turns are wanted after a request, the value there is 1 or more, and its row has enough turns
pub enough_left : (start value after : Value) → (start ≡ Forever → after ≡ Forever) → Keeps value after
    → IsWanted (one_less (turns_of start value))
    → IsLess (Finite 0) after × IsEnough (one_less (turns_of start value)) (turns_of start after)
enough_left Forever value Forever stays keeps wanted = (tt, tt)
enough_left Forever value (Finite after) stays keeps wanted =
    let same : Finite after ≡ Forever = stays refl in absurd cc
enough_left (Finite number) (Finite value) (Finite after) stays keeps wanted =
    (omega (arith, keeps, wanted), omega (arith, keeps, wanted))
enough_left (Finite number) (Finite value) Forever stays keeps wanted = (tt, omega arith)
enough_left (Finite number) Forever (Finite after) stays keeps wanted = absurd keeps
enough_left (Finite number) Forever Forever stays keeps wanted = (tt, omega arith)

-- if the claim wants the start to be listed, its value is 1 or more, and its row has enough turns
pub enough_at_start : (start : Value) → IsWanted (wanted_of (claim_of start))
    → IsLess (Finite 0) start × IsEnough (wanted_of (claim_of start)) (turns_of start start)
enough_at_start Forever wanted = (tt, tt)
enough_at_start (Finite number) wanted = (omega (arith, wanted), omega arith)
