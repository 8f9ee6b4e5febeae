use Rattle.std.proofs.Common.{[], inl, refl}
use Rattle.std.proofs.lemmas.Result.{err_from_is_err_and}
use Rattle.console.proofs.Cited.{none_more}
use Rattle.runs.specs.LimitedSolveRun.{CannotSolveWithin, SolutionWithin}
use Rattle.runs.specs.Run.{bytes_of}
use Rattle.runs.specs.declared.reading.TheConstants.{MAX_BOARD_BYTES}
use Rattle.runs.proofs.FailedRuns.{cut_short, nothing_to_write}
use Rattle.runs.proofs.ToldNotices.{noticed_before, noticed_then}
use Rattle.runs.proofs.work.Work.solve.Goals as goal

pub returns-in_err-solved-clause-fault : goal.returns-in_err-solved-clause-fault
returns-in_err-solved-clause-fault g c =
    let p = err_from_is_err_and c.from_residual-in_err-solved.result c.from_residual-in_err-solved.ensures.1 in
    let read = bytes_of g.R.Source.remaining c.args.reader.now c.read_text.new.reader in
    let written = bytes_of g.W.Sink.contents c.args.writer.now c.args.writer.now in
    rw (p.1, p.2) (nothing_to_write (SolutionWithin c.args.self.limit c.args.side)
    (CannotSolveWithin c.args.self.limit c.args.side c.args.self.workers) MAX_BOARD_BYTES read written
    c.in_ok-text.text.items c.in_ok-text.ensures.ok c.in_err-solved.field-0.0
    (rw c.as_slice.ensures.value at c.in_err-solved.ensures.fault))

pub returns-in_err-write_parts-clause-fault : goal.returns-in_err-write_parts-clause-fault
returns-in_err-write_parts-clause-fault g c =
    let from = c.from_residual-in_err-write_parts in
    let p = err_from_is_err_and from.result from.ensures.1 in
    let read = bytes_of g.R.Source.remaining c.args.reader.now c.read_text.new.reader in
    let written = bytes_of g.W.Sink.contents c.args.writer.now c.write_parts.new.writer in
    rw (p.1, p.2, c.in_err-write_parts.ensures.fault)
    (cut_short (SolutionWithin c.args.self.limit c.args.side)
    (CannotSolveWithin c.args.self.limit c.args.side c.args.self.workers) MAX_BOARD_BYTES read written
    c.in_ok-text.text.items c.in_ok-text.ensures.ok c.in_ok-solved.solved.value _
    (rw c.as_slice.ensures.value at c.in_ok-solved.ensures.ok)
    (rw c.deref.ensures.value at c.in_err-write_parts.ensures.prefix))

pub returns-clause-ok : goal.returns-clause-ok
returns-clause-ok g c = (
  c.in_ok-text.text.items,
  c.in_ok-text.ensures.ok,
  (
    _,
    rw c.as_slice.ensures.value at c.in_ok-solved.ensures.ok,
    rw c.deref.ensures.value at c.in_ok-write_parts.ensures.ok,
  ),
)

pub returns-in_err-text-clause-notice : goal.returns-in_err-text-clause-notice
returns-in_err-text-clause-notice g c =
    let p = err_from_is_err_and c.from_residual.result c.from_residual.ensures.1 in (
      [],
      rw (p.1, p.2) (inl (c.in_err-text.field-0.0, refl, inl c.in_err-text.ensures.fault, tt, refl)),
      none_more g.E.Sink.contents g.E.Sink.has_failed c.args.errors.now,
    )

pub returns-in_err-solved-clause-notice : goal.returns-in_err-solved-clause-notice
returns-in_err-solved-clause-notice g c =
    let p = err_from_is_err_and c.from_residual-in_err-solved.result c.from_residual-in_err-solved.ensures.1 in
    let read = bytes_of g.R.Source.remaining c.args.reader.now c.read_text.new.reader in
    let told = rw c.as_slice.ensures.value at c.solution.ensures.notice in (
      told.0,
      rw (p.1, p.2) (noticed_before c.args.self.limit read c.in_ok-text.text.items c.in_ok-text.ensures.ok
          c.args.self.shows_size told.0 c.solution.result told.1 c.in_err-solved.field-0.0 c.in_err-solved.was),
      told.2,
    )

pub returns-in_err-write_parts-clause-notice : goal.returns-in_err-write_parts-clause-notice
returns-in_err-write_parts-clause-notice g c =
    let read = bytes_of g.R.Source.remaining c.args.reader.now c.read_text.new.reader in
    let told = rw c.as_slice.ensures.value at c.solution.ensures.notice in (
      told.0,
      noticed_then c.args.self.limit read c.in_ok-text.text.items c.in_ok-text.ensures.ok c.args.self.shows_size
          told.0 c.solution.result told.1 c.in_ok-solved.solved c.in_ok-solved.was _,
      told.2,
    )

pub returns-clause-notice : goal.returns-clause-notice
returns-clause-notice g c =
    let read = bytes_of g.R.Source.remaining c.args.reader.now c.read_text.new.reader in
    let told = rw c.as_slice.ensures.value at c.solution.ensures.notice in (
      told.0,
      noticed_then c.args.self.limit read c.in_ok-text.text.items c.in_ok-text.ensures.ok c.args.self.shows_size
          told.0 c.solution.result told.1 c.in_ok-solved.solved c.in_ok-solved.was _,
      told.2,
    )
