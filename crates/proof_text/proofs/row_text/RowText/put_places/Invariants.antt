use Rattle.std.proofs.Common.{◌≡◌, ◌+◌, ◌*◌, ◌≤◌, ◌++◌, take}
use Rattle.board_text.specs.PlaceForms.{spaced_places}
use Rattle.proof_text.proofs.row_text.RowText.put_places.Given as goal

abbrev pub invariant-loop-place : goal.invariant-loop-place
invariant-loop-place l =
    (l.self.bytes ≡ l.initial.self.bytes ++ spaced_places l.words (take l.place-index l.places))
    × (l.self.count ≤ l.initial.self.count + l.place-index * 41)
