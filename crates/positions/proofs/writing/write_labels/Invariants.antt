use Rattle.std.proofs.Common.{◌≡◌, ◌++◌, string_bytes, take}
use Rattle.board_text.specs.PlaceForms.{spaced_places}
use Rattle.positions.specs.Ranks.{configuration_at}
use Rattle.positions.proofs.writing.write_labels.Given as goal

abbrev pub invariant-loop-pebble : goal.invariant-loop-pebble
invariant-loop-pebble l = string_bytes l.text ≡ string_bytes l.initial.text
    ++ spaced_places l.space.labels (take l.pebble (configuration_at l.space l.at))
