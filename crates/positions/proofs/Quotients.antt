-- Division by a product.
use Rattle.std.proofs.Common.{◌≡◌, ℕ, ◌+◌, ◌*◌, ◌/◌, ◌%◌, ◌<◌, ◌≤◌, sym, ap, subst, inl, inr, mod-lt, arith}
use Rattle.std.proofs.Math.Nat.{div-add-mod, mul-le-mul_left}
use Rattle.std.proofs.lemmas.Bool.{cases_lt}
use Rattle.board_text.specs.declared.board.TheConstants.{MAX_PEBBLES}
use Rattle.positions.specs.Inside.Weights.{IsDivisor}
use Rattle.positions.specs.declared.space.TheConstants.{MAX_CONFIGURATIONS}

-- the product of a number with a factor that is too large by less than one
pub record IsNear (product quotient : ℕ) : Type 0 where
  pub least : quotient * 8796093022208 ≤ product
  pub below : product < quotient * 8796093022208 + 8796093022208

pub near : (by times rest quotient low number : ℕ) → by * times + rest ≡ 8796093022208 → rest < by
    → by * quotient + low ≡ number → low < by
    → by ≤ MAX_CONFIGURATIONS → number ≤ MAX_PEBBLES * MAX_CONFIGURATIONS → IsNear (number * (times + 1)) quotient
near by times rest quotient low number whole small is under few bounded =
    let spelled : number * (times + 1) ≡ (by * quotient + low) * (times + 1) = ap (λ n. n * (times + 1)) (sym is) in
    let shifted : quotient * (by * times + rest) ≡ quotient * 8796093022208 = ap (λ n. quotient * n) whole in
    let rests : quotient * rest ≤ quotient * by = mul-le-mul_left quotient (omega arith) in
    let lows : times * (low + 1) ≤ times * by = mul-le-mul_left times (omega arith) in
    let many : (times + 1) * by ≤ (times + 1) * MAX_CONFIGURATIONS = mul-le-mul_left (times + 1) few in
    record { least = omega arith; below = omega arith }

pub near_of : (by factor number : ℕ) → IsDivisor by factor → number ≤ MAX_PEBBLES * MAX_CONFIGURATIONS
    → IsNear (number * factor) (number / by)
near_of by factor number is few =
    let times : ℕ = 8796093022208 / by in
    let same : factor ≡ times + 1 = is.factor_is in
    subst (λ f. IsNear (number * f) (number / by)) (sym same)
    (near by times (8796093022208 % by) (number / by) (number % by) number (div-add-mod 8796093022208 by)
    (mod-lt 8796093022208 is.some) (div-add-mod number by) (mod-lt number is.some) is.few few)

pub quotient_is : (product quotient : ℕ) → IsNear product quotient → product / 8796093022208 ≡ quotient
quotient_is product quotient is = (let least = is.least in let below = is.below in omega arith)

-- if a number is at most a multiple of the divisor, its quotient is at most that factor
pub few_times : (by number most : ℕ) → 0 < by → number ≤ most * by → number / by ≤ most
few_times by number most some many = elim (cases_lt most (number / by)) [
  | inl more ↦
      let larger : by * (most + 1) ≤ by * (number / by) = mul-le-mul_left by (omega arith) in
      let whole = div-add-mod number by in
      omega arith
  | inr not ↦ omega arith
]
