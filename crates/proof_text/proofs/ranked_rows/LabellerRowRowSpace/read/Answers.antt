use Rattle.std.proofs.Common.{refl, sym, arith}
use Rattle.positions.proofs.Cited.{rank_of-configuration_at}
use Rattle.proof_text.specs.Inside.Rows.{labeller_reading}
use Rattle.proof_text.proofs.RowLemmas.{ranked_answer, row_next, row_early}
use Rattle.proof_text.proofs.ranked_rows.LabellerRowRowSpace.read.Goals as goal

pub returns-then-number-least : goal.returns-then-number-least
returns-then-number-least c =
    let rank = c.rank-rank.result in
    let read = ranked_answer c.args.space.now c.args.claim c.in_ok-row.row _ _ rank c.in_ok-row.ensures
    (rw c.pebbles.ensures.value at c.rank-rank.ensures.rank) in
    row_early (labeller_reading c.args.space.now c.args.claim) c.args.least.now read _ refl rank
    (sym (rank_of-configuration_at c.args.space.now rank c.rank-rank.ensures.below)) c.if-number-least.true

pub returns : goal.returns
returns c =
    let rank = c.rank-rank.result in
    let read = ranked_answer c.args.space.now c.args.claim c.in_ok-row.row _ _ rank c.in_ok-row.ensures
    (rw c.pebbles.ensures.value at c.rank-rank.ensures.rank) in
    row_next (labeller_reading c.args.space.now c.args.claim) c.args.least.now read _ refl rank
    (sym (rank_of-configuration_at c.args.space.now rank c.rank-rank.ensures.below)) refl tt
    (omega (arith, c.rank-rank.ensures.below, c.pebbles.ensures.few)) c.if-number-least.false
