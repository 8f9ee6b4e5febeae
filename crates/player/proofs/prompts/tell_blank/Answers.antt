use Rattle.std.proofs.Common.{false}
use Rattle.player.specs.Inside.Prompts.{hint_if}
use Rattle.console.specs.Showing.{IsMore}
use Rattle.console.proofs.Cited.{if_there, none_more}
use Rattle.player.proofs.prompts.tell_blank.Goals as goal

pub returns-then-not-shows : goal.returns-then-not-shows
returns-then-not-shows g c =
    let Told = IsMore g.E.Sink.contents g.E.Sink.has_failed c.args.errors.now c.args.errors.now in
    if_there (λ b. Told (hint_if b c.args.meaning)) c.args.shows false c.if-not-shows.true
    (none_more g.E.Sink.contents g.E.Sink.has_failed c.args.errors.now)
