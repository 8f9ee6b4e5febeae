use Rattle.std.proofs.Common.{ap}
use Rattle.player.specs.Prompts.{pebble_choices}
use Rattle.player.proofs.climbing.ClimbPlay.tell_choices.Goals as goal

pub returns : goal.returns
returns g c = (pebble_choices c.levels.result, ap pebble_choices c.levels.ensures.levels, c.tell_pebble_choices.ensures)
