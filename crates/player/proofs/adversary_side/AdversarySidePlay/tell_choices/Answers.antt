use Rattle.std.proofs.Common.{◌∙◌, ap}
use Rattle.player.specs.Prompts.{pebble_choices}
use Rattle.player.proofs.adversary_side.AdversarySidePlay.tell_choices.Goals as goal

pub returns : goal.returns
returns g c = (
  pebble_choices c.pebbles.result,
  ap pebble_choices (c.pebbles.ensures.value ∙ ap (λ b. b.pebbles) (c.board.ensures
      ∙ ap (λ s. s.board) c.self.view_is)),
  c.tell_pebble_choices.ensures,
)
