use Rattle.std.proofs.Common.{◌≡◌, ◌<◌, ℕ, arith, subst, sym}
use Rattle.strategies.specs.Best.{IsBestFor}
use Rattle.strategies.specs.Inside.Answers.{value_with}
use Rattle.strategies.proofs.AskedRequests.{IsAskedBelow, asked-best}
use Rattle.strategies.proofs.FoundLabels.{found-kept, found-less}
use Rattle.strategies.proofs.LeastValues.{IsLeastBelow, least-value}
use Rattle.strategies.proofs.MadeRows.{all_taken}
use Rattle.strategies.proofs.SiblingRanks.{gap-below}
use Rattle.strategies.proofs.walk.Walk.best_moves.Goals as goal
use Rattle.strategies.proofs.walk.Walk.best_moves.Goals.{then-requests-least, else-requests-least}

pub best_of_gap-answer-requires : goal.best_of_gap-answer-requires
best_of_gap-answer-requires c =
    let board = c.args.self.now.board in
    let held = c.args.self.now.held in
    let pebble : ℕ = c.loop-pebble.pebble in
    let pebbles = rw c.self.view_is at c.pebbles-pebble-end.ensures in
    let gaps = rw c.self.view_is at c.gaps-gaps.ensures in
    let low : pebble < board.pebbles = omega (arith, c.loop-pebble-test.true, pebbles.value) in
    rw (← c.self.invariant.same_board, c.self.view_is)
    (gap-below board held pebbles.is_configuration (omega (arith, low)) pebble _ low (gaps.each pebble low))

pub loop-pebble-preserved : goal.loop-pebble-preserved
loop-pebble-preserved c =
    let board = c.args.self.now.board in
    let held = c.args.self.now.held in
    let pebble : ℕ = c.loop-pebble.pebble in
    let pebbles = rw c.self.view_is at c.pebbles-pebble-end.ensures in
    let gaps = rw c.self.view_is at c.gaps-gaps.ensures in
    let low : pebble < board.pebbles = omega (arith, c.loop-pebble-test.true, pebbles.value) in
    let most = pebbles.is_board.pebbles.1 in
    let best = rw (← c.self.invariant.same_board, c.self.view_is) at c.best_of_gap-answer.ensures in
    let is : IsBestFor board held pebble c.best_of_gap-answer.result =
    best held pebble pebbles.is_configuration low (sym (gaps.each pebble low)) in
    elim c.if-requests-least.branch [
      | then-requests-least w ↦ rw (w.least-is, w.asked-is)
          (found-less board held pebble c.loop-pebble.least c.loop-pebble.asked c.loop-pebble.labels low most
          c.loop-pebble.invariant c.best_of_gap-answer.result is c.label.result c.requests-requests.result
          c.label.ensures c.requests-requests.ensures w.if-requests-least.true)
      | else-requests-least w ↦ rw (w.least-is, w.asked-is)
          (found-kept board held pebble c.loop-pebble.least c.loop-pebble.asked c.loop-pebble.labels low most
          c.loop-pebble.invariant c.best_of_gap-answer.result is c.label.result c.requests-requests.result
          c.label.ensures c.requests-requests.ensures (omega (arith, w.if-requests-least.false)))
    ]

pub returns-clause-value : goal.returns-clause-value
returns-clause-value c =
    let pebbles = rw c.self.view_is at c.pebbles-pebble-end.ensures in
    let end : c.loop-pebble.pebble ≡ c.args.self.now.board.pebbles =
    omega (arith, pebbles.value, c.loop-pebble-test.false, c.loop-pebble.auto.pebble-end) in
    rw c.value_of.ensures
    (least-value c.args.self.now.board c.args.self.now.held (value_with c.loop-pebble.least)
    (subst (λ (n : ℕ). IsLeastBelow c.args.self.now.board c.args.self.now.held n (value_with c.loop-pebble.least)) end
    c.loop-pebble.invariant.request.is_least))

pub returns-clause-request : goal.returns-clause-request
returns-clause-request c =
    let pebbles = rw c.self.view_is at c.pebbles-pebble-end.ensures in
    let end : c.loop-pebble.pebble ≡ c.args.self.now.board.pebbles =
    omega (arith, pebbles.value, c.loop-pebble-test.false, c.loop-pebble.auto.pebble-end) in
    asked-best c.args.self.now.board c.args.self.now.held c.loop-pebble.least c.loop-pebble.asked
    pebbles.is_configuration
    (subst (λ (n : ℕ). IsAskedBelow c.args.self.now.board c.args.self.now.held n c.loop-pebble.least
    c.loop-pebble.asked) end c.loop-pebble.invariant.request)

pub returns-clause-labels : goal.returns-clause-labels
returns-clause-labels c = λ some.
    let pebbles = rw c.self.view_is at c.pebbles-pebble-end.ensures in
    all_taken c.args.self.now.board c.args.self.now.held c.loop-pebble.pebble c.loop-pebble.labels
    (omega (arith, pebbles.value, c.loop-pebble-test.false, c.loop-pebble.auto.pebble-end))
    (c.loop-pebble.invariant.taken some)
