use Rattle.std.proofs.Common.{◌≡◌, ◌+◌, ◌-◌, subst, rules, arith}
use Rattle.positions.proofs.LegalWords.{AreMadeFrom, all_set, made_previous}
use Rattle.positions.proofs.moves.legal_words.Goals as goal

pub loop-pebble-init : goal.loop-pebble-init
loop-pebble-init c =
    let board = c.args.board.now in
    rw c.pebbles-pebble.ensures.value (record {
      sized = search rules;
      earlier = c.words_before-words.ensures;
      each = λ pebble from below. absurd (omega (arith, from, below));
      all = all_set board c.args.places.now board.pebbles;
    })

pub loop-pebble-preserved : goal.loop-pebble-preserved
loop-pebble-preserved c =
    let board = c.args.board.now in
    let l = c.loop-pebble in
    let one_more : l.pebble ≡ l.pebble - 1 + 1 = omega (arith, c.loop-pebble-test.true) in
    let is_pebble = l.auto.pebble in
    made_previous board c.args.places.now (l.pebble - 1) l.words l.after c.dominators_word-after.result
    c.pebbles-pebble.ensures.is_board.pebbles.1
    (omega (arith, is_pebble, c.loop-pebble-test.true, c.pebbles-pebble.ensures.value)) c.dominators_word-after.ensures
    (subst (λ k. AreMadeFrom board c.args.places.now k l.words l.after) one_more l.invariant)
