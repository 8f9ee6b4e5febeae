use Rattle.std.proofs.Common.{[], inl, refl}
use Rattle.std.proofs.lemmas.Result.{err_from_is_err_and}
use Rattle.runs.specs.Run.{bytes_of}
use Rattle.runs.specs.SolveRun.{CannotSolve}
use Rattle.runs.specs.Summaries.{Summarizes}
use Rattle.runs.specs.declared.reading.TheConstants.{MAX_BOARD_BYTES}
use Rattle.console.proofs.Cited.{none_more}
use Rattle.runs.proofs.ToldNotices.{noticed_before, noticed_then}
use Rattle.runs.proofs.FailedRuns.{cut_short_last, nothing_to_write}
use Rattle.runs.proofs.work.Work.summarize.Goals as goal

pub returns-in_err-written-clause-fault : goal.returns-in_err-written-clause-fault
returns-in_err-written-clause-fault g c =
    let p = err_from_is_err_and c.from_residual-in_err-written.result c.from_residual-in_err-written.ensures.1 in
    let read = bytes_of g.R.Source.remaining c.args.reader.now c.read_text.new.reader in
    let written = bytes_of g.W.Sink.contents c.args.writer.now c.args.writer.now in
    rw (p.1, p.2) (nothing_to_write (Summarizes c.args.summary c.args.self.limit)
    (CannotSolve c.args.self.limit c.args.self.workers) MAX_BOARD_BYTES read written
    c.in_ok-text.text.items c.in_ok-text.ensures.ok c.in_err-written.field-0.0
    (rw c.as_slice.ensures.value at c.in_err-written.ensures.fault))

pub returns-clause-fault : goal.returns-clause-fault
returns-clause-fault g c =
    let read = bytes_of g.R.Source.remaining c.args.reader.now c.read_text.new.reader in
    let written = bytes_of g.W.Sink.contents c.args.writer.now c.write_text.new.writer in
    cut_short_last (Summarizes c.args.summary c.args.self.limit) (CannotSolve c.args.self.limit c.args.self.workers)
    MAX_BOARD_BYTES read written
    c.in_ok-text.text.items c.in_ok-text.ensures.ok
    c.write_text.result tt _ (rw c.as_slice.ensures.value at c.in_ok-written.ensures.summary)
    (rw c.deref.ensures at c.write_text.ensures.prefix) c.write_text.ensures.fault

pub returns-in_err-text-clause-notice : goal.returns-in_err-text-clause-notice
returns-in_err-text-clause-notice g c =
    let p = err_from_is_err_and c.from_residual.result c.from_residual.ensures.1 in (
      [],
      rw (p.1, p.2) (inl (c.in_err-text.field-0.0, refl, inl c.in_err-text.ensures.fault, tt, refl)),
      none_more g.E.Sink.contents g.E.Sink.has_failed c.args.errors.now,
    )

pub returns-in_err-written-clause-notice : goal.returns-in_err-written-clause-notice
returns-in_err-written-clause-notice g c =
    let p = err_from_is_err_and c.from_residual-in_err-written.result c.from_residual-in_err-written.ensures.1 in
    let read = bytes_of g.R.Source.remaining c.args.reader.now c.read_text.new.reader in
    let told = rw c.as_slice.ensures.value at c.summary_of_text.ensures.notice in (
      told.0,
      rw (p.1, p.2) (noticed_before c.args.self.limit read c.in_ok-text.text.items c.in_ok-text.ensures.ok
          c.args.self.shows_size told.0 c.summary_of_text.result told.1 c.in_err-written.field-0.0
          c.in_err-written.was),
      told.2,
    )

pub returns-clause-notice : goal.returns-clause-notice
returns-clause-notice g c =
    let read = bytes_of g.R.Source.remaining c.args.reader.now c.read_text.new.reader in
    let told = rw c.as_slice.ensures.value at c.summary_of_text.ensures.notice in (
      told.0,
      noticed_then c.args.self.limit read c.in_ok-text.text.items c.in_ok-text.ensures.ok c.args.self.shows_size
          told.0 c.summary_of_text.result told.1 c.in_ok-written.written c.in_ok-written.was c.write_text.result,
      told.2,
    )
