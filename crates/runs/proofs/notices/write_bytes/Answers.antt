use Rattle.std.proofs.Common.{codes, subst}
use Rattle.console.specs.Showing.{IsMore}
use Rattle.console.proofs.Cited.{then_more}
use Rattle.runs.specs.Notices.{tenths_of, tenths_words}
use Rattle.runs.proofs.ToldNotices.{few_bytes, many_bytes}
use Rattle.runs.proofs.notices.write_bytes.Goals as goal

pub returns-then-bytes-lt1000000000 : goal.returns-then-bytes-lt1000000000
returns-then-bytes-lt1000000000 g c =
    let tenths = rw c.div_ceil.ensures at c.write_tenths.ensures in
    subst (IsMore g.E.Sink.contents g.E.Sink.has_failed c.args.errors.now c.write_more.new.writer)
    (few_bytes c.args.bytes c.if-bytes-lt1000000000.true)
    (then_more g.E.Sink.contents g.E.Sink.has_failed c.args.errors.now c.write_tenths.new.errors c.write_more.new.writer
    (tenths_words (tenths_of 100000 c.args.bytes)) (codes " MB") tenths c.write_more.ensures)

pub returns-else-bytes-lt1000000000 : goal.returns-else-bytes-lt1000000000
returns-else-bytes-lt1000000000 g c =
    let more = c.write_more-else-bytes-lt1000000000 in
    let written = c.write_tenths-else-bytes-lt1000000000 in
    let tenths = rw c.div_ceil-else-bytes-lt1000000000.ensures at written.ensures in
    subst (IsMore g.E.Sink.contents g.E.Sink.has_failed c.args.errors.now more.new.writer)
    (many_bytes c.args.bytes c.if-bytes-lt1000000000.false)
    (then_more g.E.Sink.contents g.E.Sink.has_failed c.args.errors.now written.new.errors more.new.writer
    (tenths_words (tenths_of 100000000 c.args.bytes)) (codes " GB") tenths more.ensures)
