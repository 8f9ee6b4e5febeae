use Rattle.std.proofs.Common.{suc, ◌≡◌, ◌+◌, ◌-◌, ◌≤◌, get_or, refl, arith, rules}
use Rattle.classes.specs.Numbers.{ways}
use Rattle.board_text.specs.PlainBoard.{places}
use Rattle.classes.proofs.Cited.{ways-fit, row-begins, row-first, row-more}
use Rattle.gap_values.proofs.counting.count_without.Goals as goal

pub loop-pebble-init : goal.loop-pebble-init
loop-pebble-init c =
    row-begins (places c.args.board.now) _ (omega (arith, c.places-places.ensures.few, c.places-places.ensures.value))
    refl

pub loop-greatest-init : goal.loop-greatest-init
loop-greatest-init c = row-first (places c.args.board.now) c.loop-pebble.pebble c.loop-pebble.ways
    c.loop-pebble.invariant

pub overflow_add-ways-in-loop-greatest : goal.overflow_add-ways-in-loop-greatest
overflow_add-ways-in-loop-greatest c =
    let board = c.args.board.now in
    let few : places board ≤ 257 = omega (arith, c.places-places.ensures.few, c.places-places.ensures.value) in
    let step = row-more (places board) c.loop-pebble.pebble c.loop-greatest.greatest _ c.loop-greatest.ways few
    (omega (arith, c.loop-greatest-test.true, c.places-places.ensures.value)) refl c.loop-greatest.invariant in
    let fit = ways-fit board (suc c.loop-pebble.pebble) (c.loop-greatest.greatest + 1) c.places-places.ensures.is_board
    (omega (arith, c.loop-pebble-test.true, c.saturating_sub-pebble-end.ensures, c.pebbles.ensures.value))
    (omega (arith, c.loop-greatest-test.true, c.places-places.ensures.value)) in
    omega (arith, step.0, fit)

pub loop-greatest-preserved : goal.loop-greatest-preserved
loop-greatest-preserved c =
    let board = c.args.board.now in
    let few : places board ≤ 257 = omega (arith, c.places-places.ensures.few, c.places-places.ensures.value) in
    (row-more (places board) c.loop-pebble.pebble c.loop-greatest.greatest _ c.loop-greatest.ways few
    (omega (arith, c.loop-greatest-test.true, c.places-places.ensures.value)) refl c.loop-greatest.invariant).1

pub returns-clause-fits : goal.returns-clause-fits
returns-clause-fits c =
    let board = c.args.board.now in
    let fit = ways-fit board (board.pebbles - c.args.fewer) (places board) c.places-places.ensures.is_board
    (omega arith) (omega arith) in
    let value : get_or c.loop-pebble.ways c.places-places.result 0
    ≡ ways (board.pebbles - c.args.fewer) (places board) =
    search rules in
    omega (arith, fit, value)
