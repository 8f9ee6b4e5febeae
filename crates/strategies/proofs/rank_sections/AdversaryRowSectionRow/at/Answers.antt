use Rattle.std.proofs.Common.{refl, arith}
use Rattle.positions.proofs.Cited.{configuration_at_is}
use Rattle.proof_text.specs.Positions.{configuration_positions}
use Rattle.strategies.proofs.GatheredRows.{no_request}
use Rattle.strategies.proofs.rank_sections.AdversaryRowSectionRow.at.Goals as goal

pub returns-in_default : goal.returns-in_default
returns-in_default g c =
    let here = rw c.requires.kind.ranks at c.requires.here in
    rw c.requires.kind.ranks (no_request _ configuration_positions _
    (rw (c.in_default.is, here) at c.best_request-value.ensures.value))

pub returns-in_err-ask : goal.returns-in_err-ask
returns-in_err-ask g c =
    let here = rw c.requires.kind.ranks at c.requires.here in
    rw (c.from_residual.ensures, c.requires.kind.ranks) (no_request _ configuration_positions _
    (rw here at c.best_request-value.ensures.request.none.0 c.in_err-ask.was))

pub overflow_cast-at : goal.overflow_cast-at
overflow_cast-at g c =
    let below = rw c.requires.kind.ranks at c.requires.may_stand.0 in
    omega (arith, below, c.requires.kind.few)

pub returns : goal.returns
returns g c =
    let b = (g.W.PositionWalk.kind c.args.here.now).board in
    let here = rw c.requires.kind.ranks at c.requires.here in
    let reached = c.requires.may_stand.1 in
    let below = rw c.requires.kind.ranks at c.requires.may_stand.0 in
    let is_at = configuration_at_is b c.args.number below in
    let best = (rw (c.in_ok-ask.was, here) at c.best_request-value.ensures.request).best in
    rw c.requires.kind.ranks (
      record {
        moves = reached.moves;
        reached = reached.reached;
        has_value = rw (c.in-Finite.is, here) at c.best_request-value.ensures.value;
        asks = omega (arith, best.0.is_pebble, is_at.each_pebble);
        best = best;
      },
      refl,
      tt,
    )
