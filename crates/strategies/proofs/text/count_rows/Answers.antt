use Rattle.std.proofs.Common.{◌+◌, take, ap, sym, ◌∙◌, arith}
use Rattle.std.specs.List.{sum_by}
use Rattle.std.proofs.lemmas.List.Sums.{sum_by_more, sum_by_more_le}
use Rattle.strategies.specs.declared.lines.Lines.{Lines}
use Rattle.strategies.proofs.text.count_rows.Goals as goal

pub loop-part-preserved : goal.loop-part-preserved
loop-part-preserved c =
    let rows = λ (part : Lines). part.rows in
    ap (λ n. n + c.part-item.result.rows) c.loop-part.invariant
    ∙ ap (λ n. sum_by rows (take c.loop-part.part-index c.args.parts.now) + n) (ap rows c.part-item.is)
    ∙ sym (sum_by_more rows c.args.parts.now c.loop-part.part-index c.part-item.result c.loop-part-test.true)

pub overflow_add-rows : goal.overflow_add-rows
overflow_add-rows c =
    let whole = sum_by_more_le (λ (part : Lines). part.rows) c.args.parts.now c.loop-part.part-index
    c.part-item.result c.loop-part-test.true in
    let same = ap (λ (part : Lines). part.rows) c.part-item.is in
    omega (arith, c.requires, c.loop-part.invariant, whole, same)
