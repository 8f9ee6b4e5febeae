use Rattle.std.proofs.Common.{refl, arith}
use Rattle.positions.proofs.LegalWords.{all_set, made_next}
use Rattle.positions.proofs.moves.words_before.Goals as goal

pub loop-pebble-init : goal.loop-pebble-init
loop-pebble-init c = record {
  sized = refl;
  each = λ pebble below. absurd (omega (arith, below));
  all = all_set c.args.board.now c.args.places.now 0;
}

pub loop-pebble-preserved : goal.loop-pebble-preserved
loop-pebble-preserved c =
    let l = c.loop-pebble in
    let most = c.pebbles-pebble-end.ensures.is_board.pebbles.1 in
    made_next c.args.board.now c.args.places.now l.pebble l.words l.before c.dominators_word-before.result
    (omega (arith, most, c.loop-pebble-test.true, c.pebbles-pebble-end.ensures.value)) c.dominators_word-before.ensures
    l.invariant
