use Rattle.std.proofs.Common.{rules, ◌∙◌, ap}
use Rattle.positions.specs.Value.{HasValue}
use Rattle.positions.proofs.Cited.{same_value}
use Rattle.strategies.proofs.Cited.{start_value, means_value}
use Rattle.positions.specs.Claim.{claim_of}
use Rattle.domains.proofs.solving.solve_board.Goals as goal

pub returns-in-Ok-clause-value : goal.returns-in-Ok-clause-value
returns-in-Ok-clause-value c =
    let b = c.args.board.now in
    let values = c.in_ok-values.ensures.values in
    start_value b c.rank.result c.of-value.result c.start.ensures.is_board.start
    (rw (c.space-space.ensures.value, values, c.start.ensures.value) at c.rank.ensures.rank)
    (rw values at c.of-value.ensures)

pub returns-in-Ok-clause-means : goal.returns-in-Ok-clause-means
returns-in-Ok-clause-means c =
    let b = c.args.board.now in
    let values = c.in_ok-values.ensures.values in
    let is_start = c.start.ensures.is_board.start in
    means_value b _ c.of-value.result is_start c.in-Ok.ensures.document
    (start_value b c.rank.result c.of-value.result is_start
    (rw (c.space-space.ensures.value, values, c.start.ensures.value) at c.rank.ensures.rank)
    (rw values at c.of-value.ensures))

pub returns-in-Ok-clause-claim : goal.returns-in-Ok-clause-claim
returns-in-Ok-clause-claim c =
    let b = c.args.board.now in
    let values = c.in_ok-values.ensures.values in
    let is = c.in-Ok.ensures.document in
    let has : HasValue b b.start c.of-value.result
    = start_value b c.rank.result c.of-value.result c.start.ensures.is_board.start
    (rw (c.space-space.ensures.value, values, c.start.ensures.value) at c.rank.ensures.rank)
    (rw values at c.of-value.ensures) in
    is.claim ∙ ap claim_of (same_value b b.start is.value c.of-value.result is.has_value has)

pub returns-clause-too_large : goal.returns-clause-too_large
returns-clause-too_large c = search rules
