-- The meaning of a board's document for its designer.
use Rattle.std.specs.Prelude.{◌≡◌, ℕ, suc}
use Rattle.board_text.specs.PlainBoard.{PlainBoard}
use Rattle.positions.specs.declared.value.Value.{Value}
use Rattle.positions.specs.declared.value.Value.TheVariants.{Finite, Forever}
use Rattle.positions.specs.declared.claim.Claim.TheVariants as claims
use Rattle.positions.specs.Game.{LabellerTree, AdversaryTree}
use Rattle.positions.specs.Table.{Answers, StopsAfter, IsClosed, IsListed}
use Rattle.proof_text.specs.Proof.{PlainProof}

-- The value that is printed is the greatest number of requests that a labeller can answer against
-- every adversary: a finite `number` is claimed as it is, a labeller can answer `number` requests
-- from the start, and an adversary lets none answer one more; the printed strategy of the labeller
-- answers `number` requests however they come, and against that of the adversary no play has more
-- answers. Forever is claimed if a labeller can answer any number, and the printed strategy answers
-- each request at each configuration that it lists,
-- leads to one that it lists, and lists the start.
abbrev pub Means : PlainBoard → PlainProof → Value → Type 0
Means board document (Finite number) =
    (document.claim ≡ claims.Exactly number) × LabellerTree board number board.start
    × AdversaryTree board (suc number) board.start
    × (LabellerTree board (suc number) board.start → ⊥)
    × Answers board document.labeller number board.start
    × StopsAfter board document.adversary number board.start
Means board document Forever =
    (document.claim ≡ claims.Forever) × ((number : ℕ) → LabellerTree board number board.start)
    × IsClosed board document.labeller × IsListed document.labeller board.start
