use Rattle.runs.specs.Notices.{is_told_of}
use Rattle.runs.proofs.ToldNotices.{rounds_told}
use Rattle.runs.proofs.playing.Playing.values.Goals as goal

pub returns-clause-rounds : goal.returns-clause-rounds
returns-clause-rounds g c =
    rounds_told g.E.Sink.contents g.E.Sink.has_failed (is_told_of c.args.self.shows_size c.args.board.now)
    c.of-lines.result.are_shown c.args.board.now c.args.errors.now c.of.new.told c.of.result
    c.of-lines.ensures
    c.of.ensures.told c.of.ensures.untold
