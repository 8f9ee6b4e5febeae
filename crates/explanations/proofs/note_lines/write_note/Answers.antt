use Rattle.std.proofs.Common.{◌++◌, ◌∷◌, [], subst}
use Rattle.board_text.specs.LineForms.{with_line_feed}
use Rattle.console.specs.Showing.{IsMore, shown}
use Rattle.console.proofs.Cited.{then_more}
use Rattle.explanations.proofs.NoteLines.{colon_is_plain, line_of_parts, plain_line}
use Rattle.explanations.proofs.note_lines.write_note.Goals as goal

pub returns : goal.returns
returns g c =
    let known = g.E.Sink.contents in
    let failed = g.E.Sink.has_failed in
    let parts = c.write_parts.ensures in
    let e0 = c.args.errors.now in
    let e1 = c.write_shown.new.errors in
    let e2 = c.write_more.new.writer in
    let e3 = c.write_parts.new.errors in
    let e4 = c.write_more-2.new.writer in
    let about = shown c.args.note.now.about.now in
    let words = parts.0 in
    let colon = 58 ∷ 32 ∷ [] in
    let three = then_more known failed e2 e3 e4 words (with_line_feed []) parts.2 c.write_more-2.ensures in
    let two = then_more known failed e1 e2 e4 colon (words ++ with_line_feed []) c.write_more.ensures three in
    let rest = colon ++ (words ++ with_line_feed []) in
    let all = then_more known failed e0 e1 e4 about rest c.write_shown.ensures two in (
      about ++ (colon ++ words),
      plain_line c.args.note.now.about.now colon words colon_is_plain parts.1,
      subst (IsMore known failed e0 e4) (line_of_parts about colon words) all,
    )
