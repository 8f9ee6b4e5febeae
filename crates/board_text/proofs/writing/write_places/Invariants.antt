use Rattle.std.proofs.Common.{◌≡◌, ◌++◌, string_bytes, take}
use Rattle.board_text.specs.PlaceForms.{spaced_places}
use Rattle.board_text.proofs.writing.write_places.Given as goal

abbrev pub invariant-loop-place : goal.invariant-loop-place
invariant-loop-place l =
    string_bytes l.text ≡ string_bytes l.initial.text ++ spaced_places l.labels (take l.place-index l.places)
