use Rattle.std.proofs.Common.{◌≡◌, arith}
use Rattle.positions.proofs.PlaceMoves.{beating_more, beating_same, legal_by_places}
use Rattle.positions.proofs.legal.legal_labels.Goals as goal
use Rattle.positions.proofs.legal.legal_labels.Goals.{then-other-pebble+then-held-labels, else-other-pebble}
use Rattle.positions.proofs.legal.legal_labels.Goals.{else-other-pebble-via-then-other-pebble+else-held-labels}
use Rattle.positions.proofs.legal.legal_labels.Goals.{else-other-pebble-via-else-other-pebble}

pub loop-other-preserved : goal.loop-other-preserved
loop-other-preserved c =
    let board = c.args.board.now in
    let held = c.args.configuration.now in
    let other = c.loop-other.other in
    elim c.if-other-pebble.branch [
      | then-other-pebble+then-held-labels w ↦
          rw w.legal-is
          (beating_more board held c.loop-other.legal w.dominators.result.now w.intersection-legal.result
          c.args.pebble other
          w.if-other-pebble.true (omega (
            arith,
            w.labels-then-other-pebble.ensures.value,
            w.if-held-labels.true,
          )) w.dominators.ensures.bits w.intersection-legal.ensures c.loop-other.invariant)
      | else-other-pebble w ↦
          rw w.legal-is
          (beating_same board held c.loop-other.legal c.args.pebble other
          (elim w.else-other-pebble.branch [
            | else-other-pebble-via-then-other-pebble+else-held-labels v ↦
                λ _. omega (arith, v.labels-then-other-pebble.ensures.value, v.if-held-labels.false)
            | else-other-pebble-via-else-other-pebble v ↦ λ differs. absurd (differs v.if-other-pebble.false)
          ])
          c.loop-other.invariant)
    ]

pub returns : goal.returns
returns c =
    let end : c.loop-other.other ≡ c.args.board.now.pebbles =
    omega (arith, c.pebbles-other-end.ensures.value, c.loop-other-test.false) in
    legal_by_places c.args.board.now c.args.configuration.now c.loop-other.legal c.args.pebble c.loop-other.other end
    c.loop-other.invariant
