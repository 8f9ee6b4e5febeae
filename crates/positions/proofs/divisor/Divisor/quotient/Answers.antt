use Rattle.std.proofs.Common.{◌*◌, ◌/◌, ◌≤◌, ℕ, subst, ap, sym, ◌∙◌, arith}
use Rattle.positions.specs.declared.space.TheConstants.{MAX_CONFIGURATIONS}
use Rattle.positions.proofs.Quotients.{near_of, quotient_is, few_times}
use Rattle.positions.proofs.divisor.Divisor.quotient.Goals as goal

pub overflow_mul-result : goal.overflow_mul-result
overflow_mul-result c =
    let d = c.self.inside in
    let near = near_of d.by d.factor c.args.number c.self.invariant c.requires.few in
    let times = few_times d.by c.args.number MAX_CONFIGURATIONS c.self.invariant.some
    (subst (λ (n : ℕ). c.args.number ≤ MAX_CONFIGURATIONS * n) (sym c.self.view_is) c.requires.not_many) in
    let below = near.below in
    omega (arith, below, times)

pub returns : goal.returns
returns c =
    let d = c.self.inside in
    quotient_is (c.args.number * d.factor) (c.args.number / d.by)
    (near_of d.by d.factor c.args.number c.self.invariant c.requires.few)
    ∙ ap (λ (n : ℕ). c.args.number / n) c.self.view_is
