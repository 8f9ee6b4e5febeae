-- The claims of strategy documents on the start, when their tables show them, and when they hold.
use Rattle.std.specs.Prelude.{ℕ, ◌≤◌, ◌⊎◌, List}
use Rattle.board_text.specs.PlainBoard.{PlainBoard}
use Rattle.positions.specs.declared.claim.Claim.{Claim}
use Rattle.positions.specs.declared.claim.Claim.TheVariants as claims
use Rattle.positions.specs.declared.value.Value.{Value}
use Rattle.positions.specs.declared.value.Value.TheVariants.{Finite, Forever}
use Rattle.positions.specs.Value.{HasValue, HasValueAtMost}
use Rattle.positions.specs.Table.{AnswerRow, RequestRow, Answers, StopsAfter, IsClosed, IsListed}

-- the claim on a start of the value
abbrev pub claim_of : Value → Claim
claim_of (Finite number) = claims.Exactly number
claim_of Forever = claims.Forever

-- the tables show the claim: the labeller's that a number of requests
-- is answered, the adversary's that no more are
abbrev pub Shows : PlainBoard → List AnswerRow → List RequestRow → Claim → Type 0
Shows board labeller adversary (claims.Exactly number) = Answers board labeller number board.start
    × StopsAfter board adversary number board.start
Shows board labeller adversary (claims.AtLeast number) = Answers board labeller number board.start
Shows board labeller adversary (claims.AtMost number) =
    StopsAfter board adversary number board.start
Shows board labeller adversary claims.Forever =
    IsClosed board labeller × IsListed labeller board.start

-- the claim holds of the configuration's value
abbrev pub HoldsAt : PlainBoard → List ℕ → Claim → Type 0
HoldsAt board configuration (claims.Exactly number) = HasValue board configuration (Finite number)
HoldsAt board configuration (claims.AtLeast number) = HasValue board configuration Forever
    ⊎ ((depth : ℕ) × (number ≤ depth) × HasValue board configuration (Finite depth))
HoldsAt board configuration (claims.AtMost number) = HasValueAtMost board configuration number
HoldsAt board configuration claims.Forever = HasValue board configuration Forever

-- the claim holds of the start's value
abbrev pub Holds : PlainBoard → Claim → Type 0
Holds board claim = HoldsAt board board.start claim
