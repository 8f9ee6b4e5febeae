use Rattle.positions.proofs.PebbleWeights.{fits_power}
use Rattle.runs.proofs.reporting.count_configurations.Goals as goal

pub pow-requires : goal.pow-requires
pow-requires c =
    rw (c.from.ensures, c.from-2.ensures, c.places.ensures.value, c.pebbles.ensures.value)
    (fits_power c.args.board.now c.pebbles.ensures.is_board)
