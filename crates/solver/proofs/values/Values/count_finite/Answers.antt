use Rattle.std.proofs.Common.{◌≤◌, ◌<◌, length, arith, subst, sym}
use Rattle.std.proofs.lemmas.List.{get_or_read}
use Rattle.board_text.specs.PlainBoard.{PlainBoard}
use Rattle.positions.specs.declared.value.Value.TheVariants.{Finite}
use Rattle.solver.specs.Sizes.{HasCount}
use Rattle.solver.proofs.RankValues.{count-beyond}
use Rattle.solver.proofs.values.Values.count_finite.Goals as goal

pub returns-then-number-len : goal.returns-then-number-len
returns-then-number-len c =
    let high : length c.self.inside.sizes.items ≤ c.args.number = omega (arith, c.len.ensures, c.if-number-len.true) in
    subst (λ (b : PlainBoard). HasCount b (Finite c.args.number) 0) c.self.view_is
    (count-beyond _ _ _ _ c.self.invariant c.args.number high)

pub returns : goal.returns
returns c =
    let low : c.args.number < length c.self.inside.sizes.items = omega (arith, c.len.ensures, c.if-number-len.false) in
    let size = get_or_read c.self.inside.sizes.items c.args.number c.index.result.now low c.index.ensures 0 in
    subst (λ (b : PlainBoard). HasCount b (Finite c.args.number) c.index.result.now) c.self.view_is
    (subst (HasCount c.self.inside.numbers (Finite c.args.number)) (sym size)
    (c.self.invariant.sized.finite c.args.number low))
