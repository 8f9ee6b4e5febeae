use Rattle.std.proofs.Common.{◌≡◌, ◌+◌, ◌*◌, ◌≤◌, length, take}
use Rattle.proof_text.specs.Inside.RowText.{row_head}
use Rattle.proof_text.proofs.row_heads.RowHead.of.Given as goal

abbrev pub invariant-loop-index : goal.invariant-loop-index
invariant-loop-index l = (l.head ≡ row_head l.words (take l.index l.places)) × (length l.head ≤ 2 + 4 * l.index)
