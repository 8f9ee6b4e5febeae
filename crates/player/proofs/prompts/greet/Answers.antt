use Rattle.std.proofs.Common.{false, true}
use Rattle.player.specs.Inside.Prompts.{greeting_if}
use Rattle.console.specs.Showing.{IsMore}
use Rattle.console.proofs.Cited.{if_there, none_more}
use Rattle.player.proofs.prompts.greet.Goals as goal

pub returns-then-not-shows : goal.returns-then-not-shows
returns-then-not-shows g c =
    let game = g.P.Play.game c.args.play.now in
    let Told = IsMore g.E.Sink.contents g.E.Sink.has_failed c.args.errors.now c.args.errors.now in
    if_there (λ b. Told (greeting_if b game)) c.args.shows false c.if-not-shows.true
    (none_more g.E.Sink.contents g.E.Sink.has_failed c.args.errors.now)

pub returns : goal.returns
returns g c =
    let game = g.P.Play.game c.args.play.now in
    let Told = IsMore g.E.Sink.contents g.E.Sink.has_failed c.args.errors.now c.write_line.new.errors in
    if_there (λ b. Told (greeting_if b game)) c.args.shows true c.if-not-shows.false
    (rw c.greeting.ensures at c.write_line.ensures)
