use Rattle.std.proofs.Common.{◌≡◌, ◌++◌, ◌∙◌, List, ℕ, take, sym, subst, string_bytes}
use Rattle.std.specs.Prelude.{OnOk}
use Rattle.board_text.specs.PlaceForms.{spaced_places}
use Rattle.proof_text.specs.Arranged.{arranged_at}
use Rattle.proof_text.proofs.Cited.{class_at_number, placed}
use Rattle.proof_check.proofs.class_writing.write_class.Goals as goal

pub returns : goal.returns
returns c =
    let board = c.args.board.now in
    let number = c.args.number in
    let at = c.requires.0 in
    let found : take board.pebbles c.places_at-places.result ≡ at = c.places_at-places.ensures.places at
    (placed board at c.requires.1) c.requires.2 in
    let same : at ≡ arranged_at board number = sym (class_at_number board number at c.requires.1 c.requires.2) in
    subst (λ (places : List ℕ). OnOk c.write_places.result (string_bytes c.write_places.new.text
    ≡ string_bytes c.args.text.now ++ spaced_places board.labels places)) (found ∙ same)
    (rw (c.labels.ensures.value, c.pebbles.ensures.value) at c.write_places.ensures)
