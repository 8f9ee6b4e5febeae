use Rattle.std.proofs.Common.{inr}
use Rattle.std.proofs.lemmas.Result.{IfOk-weaker, IfErr-weaker}
use Rattle.runs.proofs.reading.read_board.Goals as goal

pub returns-clause-found : goal.returns-clause-found
returns-clause-found g c =
    IfOk-weaker c.board_within.result _ _ (λ board small. (c.in_ok-text.text.items, c.in_ok-text.ensures.ok, small))
    (rw c.as_slice.ensures.value at c.board_within.ensures.found)

pub returns-clause-fault : goal.returns-clause-fault
returns-clause-fault g c =
    IfErr-weaker c.board_within.result _ _ (λ fault none. inr (c.in_ok-text.text.items, c.in_ok-text.ensures.ok, none))
    (rw c.as_slice.ensures.value at c.board_within.ensures.fault)
