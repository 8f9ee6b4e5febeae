-- The numbers of a space, by the board that contracts see.
use Rattle.std.proofs.Common.{◌≡◌, subst}
use Rattle.board_text.specs.PlainBoard.{PlainBoard}
use Rattle.positions.specs.declared.space.Space.TheInside.{Inside}
use Rattle.positions.specs.Inside.Weights.{AreNumbersOf}

abbrev pub NumbersOf : PlainBoard → Inside → Type 0
NumbersOf board s = AreNumbersOf board s.labels s.pebbles s.places s.configurations s.weights s.every_label

pub numbers : (board : PlainBoard) (s : Inside) → s.board.value ≡ board → NumbersOf s.board.value s → NumbersOf board s
numbers board s is kept = subst (λ b. NumbersOf b s) is kept
