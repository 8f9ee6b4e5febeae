use Rattle.std.proofs.Common.{refl, arith}
use Rattle.proof_text.specs.Positions.{configuration_positions}
use Rattle.strategies.specs.Inside.Numbering.{by_rank}
use Rattle.strategies.proofs.MadeRows.{labeller_row_is}
use Rattle.strategies.proofs.rank_sections.LabellerRowSectionRow.at.Goals as goal

pub best_labels-value-requires : goal.best_labels-value-requires
best_labels-value-requires g c =
    let here = rw c.requires.kind.ranks at c.requires.here in
    rw here c.requires.may_stand.1.holds

pub overflow_cast-result : goal.overflow_cast-result
overflow_cast-result g c =
    let below = rw c.requires.kind.ranks at c.requires.may_stand.0 in
    omega (arith, below, c.requires.kind.few)

pub returns : goal.returns
returns g c =
    let b = (g.W.PositionWalk.kind c.args.here.now).board in
    let here = rw c.requires.kind.ranks at c.requires.here in
    let taken = rw here at c.best_labels-value.ensures.labels in
    rw (c.requires.kind.ranks, c.turns.ensures) (
      labeller_row_is b configuration_positions (by_rank b) c.args.number c.requires.may_stand.1 c.args.start
          c.best_labels-value.result.0 c.best_labels-value.result.1 c.best_labels-value.ensures.position.positions.board
          (rw here at c.best_labels-value.ensures.value) taken,
      refl,
      taken.rest,
    )
