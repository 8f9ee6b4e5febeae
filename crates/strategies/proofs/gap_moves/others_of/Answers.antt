use Rattle.std.proofs.Common.{◌≡◌, ◌-◌, ◌<◌, ◌≤◌, ℕ, suc, length, sym, subst, arith}
use Rattle.strategies.proofs.GapMembers.{AreGathered, gathered-more, gathered-past}
use Rattle.strategies.proofs.gap_moves.others_of.Goals as goal

pub loop-index-preserved-then-index-pebble : goal.loop-index-preserved-then-index-pebble
loop-index-preserved-then-index-pebble c =
    let held = c.args.held.now in
    let some : 0 < c.loop-index.index = c.loop-index-test.true in
    let low : c.loop-index.index ≤ length held =
    omega (arith, c.loop-index.auto.index, c.pebbles-index.ensures.value, c.requires.held.each_pebble) in
    let one : c.loop-index.index ≡ suc (c.loop-index.index - 1) = omega arith in
    let before = subst (λ (n : ℕ). AreGathered held c.args.pebble n c.loop-index.gap) one c.loop-index.invariant in
    rw c.arrange.ensures (gathered-more held c.args.pebble (c.loop-index.index - 1) c.loop-index.gap before
    (omega arith) (λ same. c.if-index-pebble.true (sym same)))

pub loop-index-preserved : goal.loop-index-preserved
loop-index-preserved c =
    let held = c.args.held.now in
    let some : 0 < c.loop-index.index = c.loop-index-test.true in
    let low : c.loop-index.index ≤ length held =
    omega (arith, c.loop-index.auto.index, c.pebbles-index.ensures.value, c.requires.held.each_pebble) in
    let one : c.loop-index.index ≡ suc (c.loop-index.index - 1) = omega arith in
    let before = subst (λ (n : ℕ). AreGathered held c.args.pebble n c.loop-index.gap) one c.loop-index.invariant in
    gathered-past held c.args.pebble (c.loop-index.index - 1) c.loop-index.gap before (omega arith)
    (sym c.if-index-pebble.false)
