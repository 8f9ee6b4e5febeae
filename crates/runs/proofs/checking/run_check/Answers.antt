use Rattle.std.proofs.Common.{inl, inr}
use Rattle.std.proofs.lemmas.Result.{err_from_is_err_and}
use Rattle.runs.specs.Verdicts.{IsChecked}
use Rattle.runs.specs.Run.{bytes_of}
use Rattle.runs.specs.Texts.{HasNoProof}
use Rattle.runs.specs.declared.checking.TheConstants.{MAX_PROOF_BYTES}
use Rattle.runs.proofs.FailedRuns.{cut_short}
use Rattle.runs.proofs.checking.run_check.Goals as goal

pub returns-in_err-write_text-clause-fault : goal.returns-in_err-write_text-clause-fault
returns-in_err-write_text-clause-fault g c =
    let p = err_from_is_err_and c.from_residual-in_err-write_text.result c.from_residual-in_err-write_text.ensures.1 in
    let board = c.in_ok-board.board in
    let proof = bytes_of g.P.Source.remaining c.args.proof.now c.read_text.new.reader in
    let written = bytes_of g.W.Sink.contents c.args.writer.now c.write_text.new.writer in
    rw (p.1, p.2, c.in_err-write_text.ensures.fault) (inr (
      board,
      c.in_ok-board.ensures.found,
      cut_short (IsChecked board) (HasNoProof board) MAX_PROOF_BYTES proof written
          c.in_ok-text.text.items c.in_ok-text.ensures.ok c.in_ok-answer.answer.verdict _
          (rw c.as_slice.ensures.value at c.in_ok-answer.ensures.checked)
          (rw c.deref.ensures at c.in_err-write_text.ensures.prefix),
    ))

pub returns-clause-ok : goal.returns-clause-ok
returns-clause-ok g c = (
  c.in_ok-board.board,
  c.in_ok-board.ensures.found,
  (
    c.in_ok-text.text.items,
    c.in_ok-text.ensures.ok,
    (
      _,
      rw c.as_slice.ensures.value at c.in_ok-answer.ensures.checked,
      rw c.deref.ensures at c.in_ok-write_text.ensures.ok,
    ),
  ),
)

pub returns-in_err-text-clause-fault : goal.returns-in_err-text-clause-fault
returns-in_err-text-clause-fault g c =
    let p = err_from_is_err_and c.from_residual-in_err-text.result c.from_residual-in_err-text.ensures.1 in
    rw (p.1, p.2) (inr (c.in_ok-board.board, c.in_ok-board.ensures.found, inl c.in_err-text.ensures.fault))

pub returns-in_err-answer-clause-fault : goal.returns-in_err-answer-clause-fault
returns-in_err-answer-clause-fault g c =
    let p = err_from_is_err_and c.from_residual-in_err-answer.result c.from_residual-in_err-answer.ensures.1 in
    rw (p.1, p.2) (inr (
      c.in_ok-board.board,
      c.in_ok-board.ensures.found,
      inr (inl (
        c.in_ok-text.text.items,
        c.in_ok-text.ensures.ok,
        rw c.as_slice.ensures.value at c.in_err-answer.ensures.fault,
      )),
    ))
