use Rattle.std.proofs.Common.{codes, refl}
use Rattle.console.specs.Showing.{shown}
use Rattle.console.proofs.Cited.{then_shown}
use Rattle.player.specs.Prompts.{requests_words}
use Rattle.player.proofs.prompts.tell_better.Goals as goal

pub returns : goal.returns
unfolding shown
returns g c =
    then_shown g.E.Sink.contents g.E.Sink.has_failed c.args.errors.now c.write_shown.new.errors
    c.tell_requests.new.errors (codes "better requests would have ended the play after ")
    (requests_words c.args.number) refl c.write_shown.ensures c.tell_requests.ensures
