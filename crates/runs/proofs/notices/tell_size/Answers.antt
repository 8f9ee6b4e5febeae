use Rattle.std.proofs.Common.{[], ◌-◌, ◌++◌, codes, subst}
use Rattle.std.specs.Fmt.{decimal}
use Rattle.board_text.specs.LineForms.{with_line_feed}
use Rattle.classes.specs.Numbers.{ways}
use Rattle.board_text.specs.PlainBoard.{places}
use Rattle.console.specs.Showing.{IsMore}
use Rattle.console.proofs.Cited.{none_more, then_more}
use Rattle.gap_values.specs.Memory.{kept_bytes}
use Rattle.runs.specs.Notices.{bytes_words, time_words}
use Rattle.runs.proofs.ToldNotices.{large_board, nobody_sees, small_board}
use Rattle.runs.proofs.notices.tell_size.Goals as goal
use Rattle.runs.proofs.notices.tell_size.Goals.{then-not-shows-via-then-not-shows}
use Rattle.runs.proofs.notices.tell_size.Goals.{then-not-shows-via-else-not-shows+then-is_small}

pub returns-then-not-shows : goal.returns-then-not-shows
returns-then-not-shows g c =
    let Told = IsMore g.E.Sink.contents g.E.Sink.has_failed c.args.errors.now c.args.errors.now in
    let none = none_more g.E.Sink.contents g.E.Sink.has_failed c.args.errors.now in
    elim c.then-not-shows.branch [
      | then-not-shows-via-then-not-shows w ↦
          subst Told (nobody_sees c.args.shows c.args.board.now w.if-not-shows.true) none
      | then-not-shows-via-else-not-shows+then-is_small w ↦
          subst Told (small_board c.args.shows c.args.board.now (w.is_small.ensures.0 w.if-is_small.true)) none
    ]

pub returns : goal.returns
returns g c =
    let known = g.E.Sink.contents in
    let failed = g.E.Sink.has_failed in
    let board = c.args.board.now in
    let gaps = ways (board.pebbles - 1) (places board) in
    let e0 = c.args.errors.now in
    let e1 = c.write_more.new.writer in
    let e2 = c.write_digits.new.errors in
    let e3 = c.write_more-2.new.writer in
    let e4 = c.write_bytes.new.errors in
    let e5 = c.write_more-3.new.writer in
    let e6 = c.write_more-4.new.writer in
    let e7 = c.write_more-5.new.writer in
    let first = codes "a large board: its " in
    let second = first ++ decimal gaps in
    let third = second ++ codes " gaps, about " in
    let fourth = third ++ bytes_words (kept_bytes board) in
    let fifth = fourth ++ codes ", are solved, which can take " in
    let digits = rw c.count_gaps-gaps.ensures at c.write_digits.ensures.digits in
    let bytes = rw c.kept_bytes.ensures at c.write_bytes.ensures in
    let time = rw (c.time_of.ensures, c.count_gaps-gaps.ensures) at c.write_more-4.ensures in
    let to_2 = then_more known failed e0 e1 e2 first (decimal gaps) c.write_more.ensures digits in
    let to_3 = then_more known failed e0 e2 e3 second _ to_2 c.write_more-2.ensures in
    let to_4 = then_more known failed e0 e3 e4 third (bytes_words (kept_bytes board)) to_3 bytes in
    let to_5 = then_more known failed e0 e4 e5 fourth _ to_4 c.write_more-3.ensures in
    let to_6 = then_more known failed e0 e5 e6 fifth (time_words gaps) to_5 time in
    subst (IsMore known failed e0 e7)
    (large_board c.args.shows board c.if-not-shows.false
    (λ few. let is = c.is_small.ensures.1 few in let not = c.if-is_small.false in cc))
    (then_more known failed e0 e6 e7 (fifth ++ time_words gaps) (with_line_feed []) to_6 c.write_more-5.ensures)
