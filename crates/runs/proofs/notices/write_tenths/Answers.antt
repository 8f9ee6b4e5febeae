use Rattle.std.proofs.Common.{◌++◌, ◌/◌, ◌%◌, codes}
use Rattle.std.specs.Fmt.{decimal}
use Rattle.console.proofs.Cited.{then_more}
use Rattle.runs.proofs.notices.write_tenths.Goals as goal

pub returns : goal.returns
returns g c =
    let known = g.E.Sink.contents in
    let failed = g.E.Sink.has_failed in
    let e0 = c.args.errors.now in
    let e1 = c.write_digits.new.errors in
    let e2 = c.write_more.new.writer in
    let e3 = c.write_digits-2.new.errors in
    let whole = decimal (c.args.tenths / 10) in
    then_more known failed e0 e2 e3 (whole ++ codes ".") (decimal (c.args.tenths % 10))
    (then_more known failed e0 e1 e2 whole (codes ".") c.write_digits.ensures.digits c.write_more.ensures)
    c.write_digits-2.ensures.digits
