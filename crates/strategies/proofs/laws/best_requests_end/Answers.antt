use Rattle.positions.specs.Game.{moved}
use Rattle.strategies.proofs.ValueOrder.{less_than_finite}
use Rattle.strategies.proofs.laws.best_requests_end.Goals as goal

pub returns : goal.returns
returns c board number configuration pebble label has best legal =
    less_than_finite board number (moved configuration pebble label) configuration has (best.0.lowers label legal)
