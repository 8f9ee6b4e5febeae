use Rattle.std.proofs.Common.{subst}
use Rattle.positions.specs.Value.{HasValue}
use Rattle.player.proofs.labeller_side.LabellerSidePlay.tell_left.Goals as goal

pub returns : goal.returns
returns g c = (
  c.value.result,
  subst (λ s. HasValue s.board s.at c.value.result) c.self.view_is (rw c.as_slice.ensures.value at c.value.ensures),
  c.tell_most.ensures.words,
  c.tell_most.ensures.plain,
)
