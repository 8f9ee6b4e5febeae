use Rattle.std.proofs.Common.{◌-◌, ◌*◌, ◌/◌, ℕ, ap, sym, ◌∙◌}
use Rattle.std.proofs.Math.Nat.{mod-eq-sub-div-mul}
use Rattle.positions.proofs.divisor.Divisor.rest.Goals as goal

pub returns : goal.returns
returns c =
    ap (λ (n : ℕ). c.args.number - n * c.self.inside.by) c.quotient.ensures
    ∙ ap (λ (n : ℕ). c.args.number - c.args.number / c.args.self * n) c.self.view_is
    ∙ sym (mod-eq-sub-div-mul c.args.number c.args.self)
