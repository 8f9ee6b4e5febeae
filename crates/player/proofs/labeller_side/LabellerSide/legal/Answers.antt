use Rattle.player.proofs.AnswerLines.{legal_bits}
use Rattle.player.proofs.labeller_side.LabellerSide.legal.Goals as goal

pub legal_labels-requires : goal.legal_labels-requires
legal_labels-requires g c = rw (c.board.ensures, c.as_slice.ensures.value) c.self.invariant.is_configuration

pub returns : goal.returns
returns g c =
    legal_bits _ _ c.self.view_is _ _ c.self.inside.asked c.legal_labels.result c.board.ensures
    c.as_slice.ensures.value c.self.invariant.best c.legal_labels.ensures
