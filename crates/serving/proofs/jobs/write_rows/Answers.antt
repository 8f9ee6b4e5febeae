use Rattle.std.proofs.Common.{codes, subst}
use Rattle.std.specs.Fmt.{decimal}
use Rattle.console.specs.Showing.{IsMore}
use Rattle.console.proofs.Cited.{then_more}
use Rattle.serving.proofs.RowLines.{many_rows, one_row}
use Rattle.serving.proofs.jobs.write_rows.Goals as goal

pub returns-then-rows-eq1 : goal.returns-then-rows-eq1
returns-then-rows-eq1 g c =
    subst (IsMore g.E.Sink.contents g.E.Sink.has_failed c.args.errors.now c.write_more.new.writer)
    (one_row c.args.rows c.if-rows-eq1.true) c.write_more.ensures

pub returns-else-rows-eq1 : goal.returns-else-rows-eq1
returns-else-rows-eq1 g c =
    let last = c.write_more-else-rows-eq1 in
    subst (IsMore g.E.Sink.contents g.E.Sink.has_failed c.args.errors.now last.new.writer)
    (many_rows c.args.rows c.if-rows-eq1.false)
    (then_more g.E.Sink.contents g.E.Sink.has_failed c.args.errors.now c.write_digits.new.errors last.new.writer
    (decimal c.args.rows) (codes " rows were checked\n") c.write_digits.ensures.digits last.ensures)
