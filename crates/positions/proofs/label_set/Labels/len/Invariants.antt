use Rattle.std.proofs.Common.{◌≡◌, ◌*◌}
use Rattle.board_text.specs.Domination.{has_bit}
use Rattle.positions.proofs.CountsBelow.{count_below}
use Rattle.positions.proofs.label_set.Labels.len.Given as goal

abbrev pub invariant-loop-word : goal.invariant-loop-word
invariant-loop-word g l = l.count ≡ count_below (has_bit l.self) (64 * l.word-index)
