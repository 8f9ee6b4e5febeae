use Rattle.std.proofs.Common.{◌∙◌, ◌-◌, length, ap, sym, arith}
use Rattle.solver.specs.Inside.Stage.{PlainStage}
use Rattle.solver.proofs.FiledRanks.{filed-shown}
use Rattle.solver.proofs.stage.Stage.filed_before.Goals as goal

pub len-requires : goal.len-requires
len-requires g c = omega (arith, c.self.invariant.0.low, c.self.invariant.2.lists_is)

pub returns : goal.returns
returns g c =
    rw (← ap (λ (v : PlainStage). v.value) c.self.view_is)
    (c.len.ensures.len
    ∙ sym (ap length (filed-shown _ _ _ _ _ _ _ c.self.view_is c.self.invariant.2.are_lists (c.self.inside.value - 1))))
