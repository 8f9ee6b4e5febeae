use Rattle.std.proofs.Common.{[], ◌++◌, false, refl, true}
use Rattle.board_text.specs.LineForms.{with_line_feed}
use Rattle.player.specs.Inside.Prompts.{IsToldHere}
use Rattle.player.specs.Prompts.{left_words, shown_line}
use Rattle.console.specs.Showing.{shown}
use Rattle.console.proofs.Cited.{if_there, none_more, then_more, then_shown}
use Rattle.player.proofs.prompts.prompt.Goals as goal

pub returns-then-not-shows : goal.returns-then-not-shows
returns-then-not-shows g c =
    let game = g.P.Play.game c.args.play.now in
    let at = g.P.Play.at c.args.play.now in (
      [],
      if_there (λ b. IsToldHere b game at []) c.args.shows false c.if-not-shows.true refl,
      none_more g.E.Sink.contents g.E.Sink.has_failed c.args.errors.now,
    )

pub returns : goal.returns
returns g c =
    let known = g.E.Sink.contents in
    let failed = g.E.Sink.has_failed in
    let game = g.P.Play.game c.args.play.now in
    let at = g.P.Play.at c.args.play.now in
    let told = c.tell_left.ensures in
    let left = left_words game told.0 in
    let choices = c.tell_choices.ensures in
    let words = left ++ choices.0 in
    let e0 = c.args.errors.now in
    let e2 = c.tell_choices.new.errors in (
      shown_line words,
      if_there (λ b. IsToldHere b game at (shown_line words)) c.args.shows true c.if-not-shows.false
          (told.0, choices.0, told.1, choices.1, refl),
      then_more known failed e0 e2 c.write_more.new.writer (shown words) (with_line_feed [])
          (then_shown known failed e0 c.tell_left.new.errors e2 left choices.0 told.3 told.2 choices.2)
          c.write_more.ensures,
    )
