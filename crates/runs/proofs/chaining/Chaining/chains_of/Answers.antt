use Rattle.std.proofs.Common.{[], inl, inr, refl}
use Rattle.std.proofs.lemmas.Result.{err_from_is_err_and}
use Rattle.console.specs.Watching.{lines_of}
use Rattle.console.proofs.Cited.{none_more}
use Rattle.runs.specs.Notices.{notice_of_length}
use Rattle.runs.proofs.ToldChains.{walk_told}
use Rattle.runs.proofs.chaining.Chaining.chains_of.Goals as goal

pub returns-in_err-board-clause-lengths : goal.returns-in_err-board-clause-lengths
returns-in_err-board-clause-lengths g c =
    let p = err_from_is_err_and c.from_residual.result c.from_residual.ensures.1 in (
      [],
      rw (p.1, p.2) (inr (c.in_err-board.field-0.0, refl, c.in_err-board.ensures.fault, refl)),
      none_more g.E.Sink.contents g.E.Sink.has_failed c.args.errors.now,
    )

pub returns-in_err-found-clause-lengths : goal.returns-in_err-found-clause-lengths
returns-in_err-found-clause-lengths g c =
    let p = err_from_is_err_and c.from_residual-in_err-found.result c.from_residual-in_err-found.ensures.1 in
    let told = c.in_err-found.ensures.broken in (
      lines_of (notice_of_length c.args.self.shows_lengths) 1 told.0,
      rw p.1 (inl (c.in_ok-board.board, c.in_ok-board.ensures.found, told.0, told.1, λ done. cc, refl)),
      walk_told g.E.Sink.contents g.E.Sink.has_failed c.args.self.shows_lengths c.args.errors.now c.count.new.told
          told.0 told.2,
    )

pub returns-clause-lengths : goal.returns-clause-lengths
returns-clause-lengths g c =
    let counts = c.in_ok-found.found.counts.items in
    let are = c.in_ok-found.ensures.counts in (
      lines_of (notice_of_length c.args.self.shows_lengths) 1 counts,
      inl (
        c.in_ok-board.board,
        c.in_ok-board.ensures.found,
        counts,
        are.counted,
        λ done. (_, are),
        refl,
      ),
      walk_told g.E.Sink.contents g.E.Sink.has_failed c.args.self.shows_lengths c.args.errors.now c.count.new.told
          counts c.in_ok-found.ensures.told,
    )

pub returns-in_err-text_of-clause-lengths : goal.returns-in_err-text_of-clause-lengths
returns-in_err-text_of-clause-lengths g c =
    let counts = c.in_ok-found.found.counts.items in
    let are = c.in_ok-found.ensures.counts in (
      lines_of (notice_of_length c.args.self.shows_lengths) 1 counts,
      inl (
        c.in_ok-board.board,
        c.in_ok-board.ensures.found,
        counts,
        are.counted,
        λ done. (_, are),
        refl,
      ),
      walk_told g.E.Sink.contents g.E.Sink.has_failed c.args.self.shows_lengths c.args.errors.now c.count.new.told
          counts c.in_ok-found.ensures.told,
    )
