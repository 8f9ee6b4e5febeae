use Rattle.std.proofs.Common.{◌≡◌, ◌-◌, ℕ, length, subst, arith}
use Rattle.strategies.specs.Inside.Walks.{AreNumberRows}
use Rattle.strategies.proofs.SiblingRanks.{gaps-more, other-below, other-number}
use Rattle.strategies.proofs.gap_walk.gaps_of.Goals as goal

pub member-requires-clause-class : goal.member-requires-clause-class
member-requires-clause-class c =
    let board = c.args.members.now in
    let held = c.args.held.now in
    let size : length held ≡ board.pebbles = c.requires.held.each_pebble in
    let two : board.pebbles - 1 - 1 ≡ board.pebbles - 2 = omega arith in
    rw (size, two)
    (other-below board held c.requires.held (omega (arith, c.requires.some, size)) c.args.rests.now
    (subst (λ (n : ℕ). AreNumberRows held n c.args.rests.now) size c.requires.rests) c.loop-pebble.pebble
    (omega (arith, c.loop-pebble-test.true, size)))

pub loop-pebble-preserved : goal.loop-pebble-preserved
loop-pebble-preserved c =
    let board = c.args.members.now in
    let held = c.args.held.now in
    let size : length held ≡ board.pebbles = c.requires.held.each_pebble in
    let two : board.pebbles - 1 - 1 ≡ board.pebbles - 2 = omega arith in
    gaps-more held c.loop-pebble.pebble c.member.result c.loop-pebble.numbers
    (omega (arith, c.loop-pebble-test.true, c.requires.few)) c.loop-pebble.invariant
    (other-number board held c.requires.held (omega (arith, c.requires.some, size)) c.args.rests.now
    (subst (λ (n : ℕ). AreNumberRows held n c.args.rests.now) size c.requires.rests) c.loop-pebble.pebble
    c.member.result (omega (arith, c.loop-pebble-test.true, size)) (rw (size, two) at c.member.ensures))
