use Rattle.std.proofs.Common.{◌-◌, ◌<◌, inl, inr, length, sym, subst, arith}
use Rattle.std.proofs.lemmas.Bool.{cases_eq, cases_lt}
use Rattle.std.proofs.lemmas.List.{get_or_read}
use Rattle.board_text.specs.PlainBoard.{PlainBoard}
use Rattle.positions.specs.Laws.{Occurs}
use Rattle.solver.proofs.RankValues.{none-occurs, some-occurs}
use Rattle.solver.proofs.values.Values.greatest_finite.Goals as goal

pub loop-value-init : goal.loop-value-init
loop-value-init c = λ other high occurs.
    c.self.invariant.sized.beyond other (omega (arith, high, c.len-value.ensures, c.self.inside.sizes.ok.0))
    (subst (λ (b : PlainBoard). Occurs b other) (sym c.self.view_is) occurs)

pub returns-then-index-gt0 : goal.returns-then-index-gt0
returns-then-index-gt0 c =
    let last : c.loop-value.value - 1 < length c.self.inside.sizes.items =
    omega (arith, c.loop-value-test.true, c.loop-value.auto.value, c.len-value.ensures, c.self.inside.sizes.ok.0) in
    let read = get_or_read c.self.inside.sizes.items (c.loop-value.value - 1) c.index.result.now last c.index.ensures
    0 in (
      subst (λ (b : PlainBoard). Occurs b (c.loop-value.value - 1)) c.self.view_is
          (some-occurs _ _ _ _ c.self.invariant (c.loop-value.value - 1) last (omega (
            arith,
            read,
            c.if-index-gt0.true,
          ))),
      λ other occurs. elim (cases_lt other c.loop-value.value) [
        | inl low ↦ omega (arith, low)
        | inr high ↦ absurd (c.loop-value.invariant other high occurs)
      ],
    )

pub loop-value-preserved : goal.loop-value-preserved
loop-value-preserved c = λ other high occurs.
    let last : c.loop-value.value - 1 < length c.self.inside.sizes.items =
    omega (arith, c.loop-value-test.true, c.loop-value.auto.value, c.len-value.ensures, c.self.inside.sizes.ok.0) in
    let read = get_or_read c.self.inside.sizes.items (c.loop-value.value - 1) c.index.result.now last c.index.ensures
    0 in
    elim (cases_eq other (c.loop-value.value - 1)) [
      | inl same ↦
          none-occurs _ _ _ _ c.self.invariant (c.loop-value.value - 1) last (omega (
            arith,
            read,
            c.if-index-gt0.false,
          ))
          (subst (λ (b : PlainBoard). Occurs b (c.loop-value.value - 1)) (sym c.self.view_is)
          (subst (Occurs c.args.self.now) same occurs))
      | inr differ ↦ c.loop-value.invariant other (omega (arith, high, differ)) occurs
    ]

pub returns : goal.returns
returns c = λ other occurs. c.loop-value.invariant other (omega (arith, c.loop-value-test.false)) occurs
