use Rattle.std.proofs.Common.{[], refl}
use Rattle.std.proofs.lemmas.Result.{err_from_is_err_and}
use Rattle.std.specs.Prelude.{Err}
use Rattle.console.proofs.Cited.{none_more}
use Rattle.runs.specs.Notices.{is_told_of}
use Rattle.runs.specs.declared.fault.RunFault.TheVariants.{Memory}
use Rattle.runs.proofs.ToldNotices.{all_told, rounds_found, rounds_of_run, rounds_told, small_rounds}
use Rattle.runs.proofs.work.Work.values.Goals as goal

pub returns-in_err-solve_classes-in-Small-clause-rounds : goal.returns-in_err-solve_classes-in-Small-clause-rounds
returns-in_err-solve_classes-in-Small-clause-rounds g c = (
  [],
  all_told c.args.self.shows_size c.args.board.now _ [] (small_rounds c.args.self.shows_size c.args.board.now
      (rw c.in-Small.is at c.requires.within)),
  none_more g.E.Sink.contents g.E.Sink.has_failed c.args.errors.now,
)

pub returns-in_ok-solve_classes-in-Small-clause-rounds : goal.returns-in_ok-solve_classes-in-Small-clause-rounds
returns-in_ok-solve_classes-in-Small-clause-rounds g c = (
  [],
  all_told c.args.self.shows_size c.args.board.now _ [] (small_rounds c.args.self.shows_size c.args.board.now
      (rw c.in-Small.is at c.requires.within)),
  none_more g.E.Sink.contents g.E.Sink.has_failed c.args.errors.now,
)

pub returns-in_err-of-in_default-clause-rounds : goal.returns-in_err-of-in_default-clause-rounds
returns-in_err-of-in_default-clause-rounds g c =
    let from = c.from_residual-in_err-of-in_default in
    let p = err_from_is_err_and from.result from.ensures.1 in
    let shows = c.args.self.shows_size in
    let told = rounds_told g.E.Sink.contents g.E.Sink.has_failed (is_told_of shows c.args.board.now)
    c.of-lines.result.are_shown c.args.board.now c.args.errors.now c.of.new.told c.of.result c.of-lines.ensures
    c.of.ensures.told c.of.ensures.untold in (
      told.0,
      rw (p.1, p.2)
          (rounds_of_run shows c.args.board.now c.of.result (Err Memory) (λ err. refl) told.0 told.1),
      told.2,
    )

pub returns-in_ok-of-in_default-clause-rounds : goal.returns-in_ok-of-in_default-clause-rounds
returns-in_ok-of-in_default-clause-rounds g c =
    let shows = c.args.self.shows_size in
    let told = rounds_told g.E.Sink.contents g.E.Sink.has_failed (is_told_of shows c.args.board.now)
    c.of-lines.result.are_shown c.args.board.now c.args.errors.now c.of.new.told c.of.result c.of-lines.ensures
    c.of.ensures.told c.of.ensures.untold in (
      told.0,
      all_told shows c.args.board.now _ told.0
          (rounds_found shows c.args.board.now c.of.result _ c.in_ok-of-in_default.was told.0 told.1),
      told.2,
    )
