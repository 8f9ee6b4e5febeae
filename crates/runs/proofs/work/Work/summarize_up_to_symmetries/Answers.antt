use Rattle.std.proofs.Common.{inl, inr}
use Rattle.std.proofs.lemmas.Result.{IfErr-weaker, IfOk-weaker, err_from_is_err_and}
use Rattle.runs.specs.Run.{bytes_of}
use Rattle.runs.specs.SymmetricRun.{HasNoFewOrbits, SaysUpTo}
use Rattle.runs.specs.declared.given_symmetries.TheConstants.{MAX_SYMMETRIES_BYTES}
use Rattle.runs.proofs.FailedRuns.{cut_short_last, nothing_to_write}
use Rattle.runs.proofs.work.Work.summarize_up_to_symmetries.Goals as goal

pub returns-in_err-text-clause-fault : goal.returns-in_err-text-clause-fault
returns-in_err-text-clause-fault g c =
    let p = err_from_is_err_and c.from_residual-in_err-text.result c.from_residual-in_err-text.ensures.1 in
    rw (p.1, p.2) (inr (c.in_ok-board.board, c.in_ok-board.ensures.found, inl c.in_err-text.ensures.fault))

pub returns-in_err-written-clause-fault : goal.returns-in_err-written-clause-fault
returns-in_err-written-clause-fault g c =
    let p = err_from_is_err_and c.from_residual-in_err-written.result c.from_residual-in_err-written.ensures.1 in
    let board = c.in_ok-board.board in
    let given = bytes_of g.S.Source.remaining c.args.symmetries.now c.read_text.new.reader in
    let written = bytes_of g.W.Sink.contents c.args.writer.now c.args.writer.now in
    rw (p.1, p.2) (inr (
      board,
      c.in_ok-board.ensures.found,
      nothing_to_write (SaysUpTo c.args.summary board) (HasNoFewOrbits board) MAX_SYMMETRIES_BYTES given written
          c.in_ok-text.text.items c.in_ok-text.ensures.ok c.in_err-written.field-0.0
          (rw c.as_slice.ensures.value at c.in_err-written.ensures.fault),
    ))

pub returns-clause-fault : goal.returns-clause-fault
returns-clause-fault g c =
    let board = c.in_ok-board.board in
    let given = bytes_of g.S.Source.remaining c.args.symmetries.now c.read_text.new.reader in
    let written = bytes_of g.W.Sink.contents c.args.writer.now c.write_text.new.writer in
    IfErr-weaker c.write_text.result _ _ (λ fault fails. inr (board, c.in_ok-board.ensures.found, fails))
    (cut_short_last (SaysUpTo c.args.summary board) (HasNoFewOrbits board) MAX_SYMMETRIES_BYTES given written
    c.in_ok-text.text.items c.in_ok-text.ensures.ok c.write_text.result tt _
    (rw c.as_slice.ensures.value at c.in_ok-written.ensures.summary)
    (rw c.deref.ensures at c.write_text.ensures.prefix) c.write_text.ensures.fault)

pub returns-clause-ok : goal.returns-clause-ok
returns-clause-ok g c =
    IfOk-weaker c.write_text.result _ _ (λ done wrote. (
      c.in_ok-board.board,
      c.in_ok-board.ensures.found,
      (
        c.in_ok-text.text.items,
        c.in_ok-text.ensures.ok,
        (_, rw c.as_slice.ensures.value at c.in_ok-written.ensures.summary, rw c.deref.ensures at wrote),
      ),
    ))
    c.write_text.ensures.ok
