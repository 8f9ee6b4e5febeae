use Rattle.std.proofs.Common.{[], false, inl, inr, refl, true}
use Rattle.board_text.specs.LineForms.{with_line_feed}
use Rattle.player.specs.Inside.Prompts.{IsToldAtEnd}
use Rattle.player.specs.Prompts.{better_words, start_words, shown_line}
use Rattle.console.specs.Showing.{shown}
use Rattle.console.proofs.Cited.{if_there, none_more, then_more}
use Rattle.player.proofs.ToldPlays.{reached}
use Rattle.player.proofs.prompts.tell_last.Goals as goal

pub returns-then-not-shows : goal.returns-then-not-shows
returns-then-not-shows g c = (
  [],
  if_there (λ b. IsToldAtEnd b c.args.value c.args.end []) c.args.shows false c.if-not-shows.true refl,
  none_more g.E.Sink.contents g.E.Sink.has_failed c.args.errors.now,
)

pub returns-then-is_before : goal.returns-then-is_before
returns-then-is_before g c =
    let words = start_words c.args.value in (
      shown_line words,
      if_there (λ b. IsToldAtEnd b c.args.value c.args.end (shown_line words)) c.args.shows true
          c.if-not-shows.false (inl (c.is_before.ensures.0 c.if-is_before.true, refl)),
      then_more g.E.Sink.contents g.E.Sink.has_failed c.args.errors.now c.tell_start.new.errors
          c.write_more.new.writer (shown words) (with_line_feed []) c.tell_start.ensures c.write_more.ensures,
    )

pub returns-in-Some : goal.returns-in-Some
returns-in-Some g c =
    let words = better_words c.in-Some.number in
    let passed = c.in-Some.ensures in (
      shown_line words,
      if_there (λ b. IsToldAtEnd b c.args.value c.args.end (shown_line words)) c.args.shows true
          c.if-not-shows.false (inr (inl (c.in-Some.number, passed.0, passed.1, refl))),
      then_more g.E.Sink.contents g.E.Sink.has_failed c.args.errors.now c.tell_better.new.errors
          c.write_more-in-Some.new.writer (shown words) (with_line_feed []) c.tell_better.ensures
          c.write_more-in-Some.ensures,
    )

pub returns-in_default : goal.returns-in_default
returns-in_default g c = (
  [],
  reached c.args.shows c.args.value c.args.end
      (λ before. let is = c.is_before.ensures.1 before in let not = c.if-is_before.false in cc)
      c.in_default.ensures,
  none_more g.E.Sink.contents g.E.Sink.has_failed c.args.errors.now,
)
