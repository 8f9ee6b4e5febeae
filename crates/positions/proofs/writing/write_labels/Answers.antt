use Rattle.std.proofs.Common.{string_bytes, arith}
use Rattle.positions.specs.Ranks.{configuration_at}
use Rattle.positions.proofs.Ranks.{configuration_at_is}
use Rattle.positions.proofs.PlaceWords.{one_more, all_places}
use Rattle.positions.proofs.writing.write_labels.Goals as goal

pub loop-pebble-preserved : goal.loop-pebble-preserved
loop-pebble-preserved c =
    let board = c.args.space.now in
    let at = c.args.at in
    let is = configuration_at_is board at c.requires in
    one_more board.labels (configuration_at board at) c.loop-pebble.pebble c.label_at.result
    (string_bytes c.args.text.now) (string_bytes c.loop-pebble.text) (string_bytes c.write_place.new.text)
    (omega (
      arith,
      is.each_pebble,
      c.loop-pebble-test.true,
      c.pebbles-pebble-end.ensures.value,
    )) c.label_at.ensures.label c.loop-pebble.invariant
    (rw c.labels.ensures.value at c.in_ok-write_place.ensures)

pub returns : goal.returns
returns c =
    let board = c.args.space.now in
    let at = c.args.at in
    let is = configuration_at_is board at c.requires in
    all_places board.labels (configuration_at board at) c.loop-pebble.pebble (string_bytes c.args.text.now)
    (string_bytes c.loop-pebble.text)
    (omega (
      arith,
      is.each_pebble,
      c.loop-pebble-test.false,
      c.pebbles-pebble-end.ensures.value,
    )) c.loop-pebble.invariant
