use Rattle.std.proofs.Common.{[], ◌++◌, codes}
use Rattle.std.specs.Prelude.{if◌then◌else◌, nat_eq}
use Rattle.std.specs.Fmt.{decimal}
use Rattle.board_text.specs.LineForms.{with_line_feed}
use Rattle.console.proofs.Cited.{then_more}
use Rattle.runs.proofs.notices.write_round.Goals as goal

pub returns : goal.returns
returns g c =
    let known = g.E.Sink.contents in
    let failed = g.E.Sink.has_failed in
    let e0 = c.args.errors.now in
    let e1 = c.write_more.new.writer in
    let e2 = c.write_digits.new.errors in
    let e3 = c.write_more-2.new.writer in
    let e4 = c.write_digits-2.new.errors in
    let e5 = c.write_more-3.new.writer in
    let e6 = c.write_more-4.new.writer in
    let first = codes "round " in
    let round = decimal c.args.round in
    let gaps = decimal c.args.gaps in
    let last = if nat_eq c.args.gaps 1 then codes " gap is open" else codes " gaps are open" in
    let second = first ++ round in
    let third = second ++ codes ": " in
    let fourth = third ++ gaps in
    let words = rw c.words_of.ensures at c.write_more-3.ensures in
    let digits = rw c.from.ensures at c.write_digits.ensures.digits in
    let to_2 = then_more known failed e0 e1 e2 first round c.write_more.ensures digits in
    let to_3 = then_more known failed e0 e2 e3 second (codes ": ") to_2 c.write_more-2.ensures in
    let to_4 = then_more known failed e0 e3 e4 third gaps to_3 c.write_digits-2.ensures.digits in
    let to_5 = then_more known failed e0 e4 e5 fourth last to_4 words in
    then_more known failed e0 e5 e6 (fourth ++ last) (with_line_feed []) to_5 c.write_more-4.ensures
