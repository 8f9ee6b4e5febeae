use Rattle.std.proofs.Common.{subst, sym}
use Rattle.board_text.specs.PlainBoard.{PlainBoard}
use Rattle.positions.specs.declared.value.Value.TheVariants.{Forever}
use Rattle.solver.specs.Sizes.{HasCount}
use Rattle.solver.proofs.values.Values.count.Goals as goal

pub returns-in-Forever : goal.returns-in-Forever
returns-in-Forever c =
    subst (λ v. HasCount c.args.self.now v c.self.inside.forever) (sym c.in-Forever.is)
    (subst (λ (b : PlainBoard). HasCount b Forever c.self.inside.forever) c.self.view_is
    c.self.invariant.sized.unending)
