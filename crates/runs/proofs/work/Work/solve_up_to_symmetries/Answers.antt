use Rattle.std.proofs.Common.{inl, inr}
use Rattle.std.proofs.lemmas.Result.{err_from_is_err_and}
use Rattle.runs.specs.Run.{bytes_of}
use Rattle.runs.specs.SymmetricSolveRun.{CannotSolveUpTo, IsSolutionUpTo}
use Rattle.runs.specs.declared.given_symmetries.TheConstants.{MAX_SYMMETRIES_BYTES}
use Rattle.runs.proofs.FailedRuns.{cut_short, nothing_to_write}
use Rattle.runs.proofs.work.Work.solve_up_to_symmetries.Goals as goal

pub returns-in_err-text-clause-fault : goal.returns-in_err-text-clause-fault
returns-in_err-text-clause-fault g c =
    let p = err_from_is_err_and c.from_residual-in_err-text.result c.from_residual-in_err-text.ensures.1 in
    rw (p.1, p.2) (inr (c.in_ok-board.board, c.in_ok-board.ensures.found, inl c.in_err-text.ensures.fault))

pub returns-in_err-solved-clause-fault : goal.returns-in_err-solved-clause-fault
returns-in_err-solved-clause-fault g c =
    let p = err_from_is_err_and c.from_residual-in_err-solved.result c.from_residual-in_err-solved.ensures.1 in
    let board = c.in_ok-board.board in
    let given = bytes_of g.S.Source.remaining c.args.symmetries.now c.read_text.new.reader in
    let written = bytes_of g.W.Sink.contents c.args.writer.now c.args.writer.now in
    rw (p.1, p.2) (inr (
      board,
      c.in_ok-board.ensures.found,
      nothing_to_write (IsSolutionUpTo c.args.side board) (CannotSolveUpTo c.args.side board) MAX_SYMMETRIES_BYTES
          given written c.in_ok-text.text.items c.in_ok-text.ensures.ok c.in_err-solved.field-0.0
          (rw c.as_slice.ensures.value at c.in_err-solved.ensures.fault),
    ))

pub returns-in_err-write_parts-clause-fault : goal.returns-in_err-write_parts-clause-fault
returns-in_err-write_parts-clause-fault g c =
    let from = c.from_residual-in_err-write_parts in
    let p = err_from_is_err_and from.result from.ensures.1 in
    let board = c.in_ok-board.board in
    let given = bytes_of g.S.Source.remaining c.args.symmetries.now c.read_text.new.reader in
    let written = bytes_of g.W.Sink.contents c.args.writer.now c.write_parts.new.writer in
    rw (p.1, p.2, c.in_err-write_parts.ensures.fault) (inr (
      board,
      c.in_ok-board.ensures.found,
      cut_short (IsSolutionUpTo c.args.side board) (CannotSolveUpTo c.args.side board) MAX_SYMMETRIES_BYTES
          given written c.in_ok-text.text.items c.in_ok-text.ensures.ok c.in_ok-solved.solved.value _
          (rw c.as_slice.ensures.value at c.in_ok-solved.ensures.ok)
          (rw c.deref.ensures.value at c.in_err-write_parts.ensures.prefix),
    ))

pub returns-clause-ok : goal.returns-clause-ok
returns-clause-ok g c = (
  c.in_ok-board.board,
  c.in_ok-board.ensures.found,
  (
    c.in_ok-text.text.items,
    c.in_ok-text.ensures.ok,
    (
      _,
      rw c.as_slice.ensures.value at c.in_ok-solved.ensures.ok,
      rw c.deref.ensures.value at c.in_ok-write_parts.ensures.ok,
    ),
  ),
)
