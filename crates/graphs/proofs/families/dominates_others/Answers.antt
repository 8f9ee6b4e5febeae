use Rattle.std.proofs.Common.{rules, arith}
use Rattle.graphs.proofs.FilledFamilies.{dominates-all, dominated}
use Rattle.graphs.proofs.families.dominates_others.Goals as goal

pub returns-then-not-beats_place : goal.returns-then-not-beats_place
returns-then-not-beats_place c = (
  λ e. absurd cc,
  λ dominates.
      let beaten = c.beats_place.ensures.1 (dominated c.args.board.now c.args.held.now c.args.index c.loop-other.other
      c.requires dominates c.loop-other-test.true c.if-other-index.true) in
      let not_beaten = c.if-not-beats_place.true in
      cc,
)

pub returns : goal.returns
returns c = (
  λ _. dominates-all c.args.board.now c.args.held.now c.args.index c.requires (omega (
    arith,
    c.if-label-labels.false,
    c.labels.ensures.value,
  ))
      (λ k low differs. c.loop-other.invariant k (omega (arith, c.loop-other-test.false, low)) differs),
  λ _. search rules,
)
