use Rattle.std.proofs.Common.{ℕ, arith, sym}
use Rattle.gap_values.proofs.OpenCounts.{open-more, open-same, open-zero}
use Rattle.gap_values.proofs.rounds.count_open.Goals as goal
use Rattle.gap_values.proofs.rounds.count_open.Goals.{then-words-index, else-words-index}

pub loop-index-init : goal.loop-index-init
loop-index-init c = record { counted = sym (open-zero c.args.words.now); few = omega arith }

pub loop-index-preserved : goal.loop-index-preserved
loop-index-preserved c =
    let words = c.args.words.now in
    let at : ℕ = c.loop-index.index in
    let counted = c.loop-index.invariant.counted in
    let few = c.loop-index.invariant.few in
    elim c.if-words-index.branch [
      | then-words-index w ↦ record {
        counted = (let more = open-more words at w.if-words-index.true in omega (arith, w.count-is, counted, more));
        few = omega (arith, w.count-is, few);
      }
      | else-words-index w ↦ record {
        counted = (let same = open-same words at w.if-words-index.false in omega (arith, w.count-is, counted, same));
        few = omega (arith, w.count-is, few);
      }
    ]
