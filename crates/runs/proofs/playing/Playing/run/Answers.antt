use Rattle.std.proofs.Common.{[], ◌++◌, append-nil, inl, inr, refl, sym, ap, ◌∙◌}
use Rattle.std.specs.Prelude.{Err}
use Rattle.runs.proofs.PlayFaults.{lines-told, ok_or_err, same_run_fault, writer-told}
use Rattle.std.proofs.lemmas.Result.{err_from_is_err_and}
use Rattle.console.proofs.Cited.{none_more, then_more}
use Rattle.runs.specs.Notices.{notice_for}
use Rattle.runs.proofs.BoardLimits.{few_gaps}
use Rattle.runs.proofs.ToldNotices.{rounds_found, rounds_none, untold_more}
use Rattle.runs.specs.PlayRun.{run_of_play}
use Rattle.runs.proofs.playing.Playing.run.Goals as goal

pub values-requires : goal.values-requires
values-requires g c =
    let found = c.in_ok-board.ensures.found.2 in
    record { gaps = few_gaps c.args.self.limit c.in_ok-board.board found.is_board found.few }

pub returns-clause-ok : goal.returns-clause-ok
returns-clause-ok g c = (
  c.in_ok-board.board,
  c.in_ok-board.ensures.found,
  (rw c.new-moves.ensures at c.in_ok-play.ensures.ok, rw c.new-moves.ensures at c.in_ok-play.ensures.value),
)

pub returns-in_err-play-clause-fault : goal.returns-in_err-play-clause-fault
returns-in_err-play-clause-fault g c =
    let p = err_from_is_err_and c.from_residual-in_err-play.result c.from_residual-in_err-play.ensures.1 in
    rw (p.1, p.2) (inr (
      c.in_ok-board.board,
      c.in_ok-board.ensures.found,
      (_, rw c.new-moves.ensures at c.in_err-play.ensures.fault, refl),
    ))

pub returns-in_err-play-clause-streams : goal.returns-in_err-play-clause-streams
returns-in_err-play-clause-streams g c =
    let p = err_from_is_err_and c.from_residual-in_err-play.result c.from_residual-in_err-play.ensures.1 in
    let told = c.in_err-play.ensures.streams in
    let is = p.1 ∙ ap Err p.2 in
    record {
      read = (
        λ failed. elim failed [
          | inl board ↦ absurd (ok_or_err _ _ _ c.in_ok-board.was (c.read_board.ensures.read.0 board))
          | inr lines ↦ is ∙ ap Err ((lines-told _ _ _ told _ refl).0 lines)
        ],
        λ fault. inr ((lines-told _ _ _ told _ refl).1 (same_run_fault _ _ (sym is ∙ fault))),
      );
      write = (
        λ failed. is ∙ ap Err ((writer-told _ _ _ told _ refl).0 failed),
        λ fault. (writer-told _ _ _ told _ refl).1 (same_run_fault _ _ (sym is ∙ fault)),
      );
    }

pub returns-in_err-play-clause-prompts : goal.returns-in_err-play-clause-prompts
returns-in_err-play-clause-prompts g c =
    let p = err_from_is_err_and c.from_residual-in_err-play.result c.from_residual-in_err-play.ensures.1 in
    let notice = notice_for c.args.self.shows_size c.in_ok-board.board in
    let rounds = c.values.ensures.rounds in
    let told = rw c.new-moves.ensures at c.play.ensures.prompts in (
      notice ++ (rounds.0 ++ told.0),
      rw (p.1, p.2) (inr (
        c.in_ok-board.board,
        c.in_ok-board.ensures.found,
        rounds.0 ++ told.0,
        refl,
        inr (
          rounds.0,
          told.0,
          refl,
          rounds_found c.args.self.shows_size c.in_ok-board.board c.values.result c.in_ok-values.values
              c.in_ok-values.was rounds.0 rounds.1,
          (c.play.result, ap run_of_play (sym c.in_err-play.was), told.1),
        ),
      )),
      then_more g.E.Sink.contents g.E.Sink.has_failed _ _ _ notice (rounds.0 ++ told.0) c.tell_size.ensures
          (then_more g.E.Sink.contents g.E.Sink.has_failed _ _ _ rounds.0 told.0 rounds.2 told.2),
    )

pub returns-clause-prompts : goal.returns-clause-prompts
returns-clause-prompts g c =
    let notice = notice_for c.args.self.shows_size c.in_ok-board.board in
    let rounds = c.values.ensures.rounds in
    let told = rw c.new-moves.ensures at c.play.ensures.prompts in (
      notice ++ (rounds.0 ++ told.0),
      inr (
        c.in_ok-board.board,
        c.in_ok-board.ensures.found,
        rounds.0 ++ told.0,
        refl,
        inr (
          rounds.0,
          told.0,
          refl,
          rounds_found c.args.self.shows_size c.in_ok-board.board c.values.result c.in_ok-values.values
              c.in_ok-values.was rounds.0 rounds.1,
          (c.play.result, ap run_of_play (sym c.in_ok-play.was), told.1),
        ),
      ),
      then_more g.E.Sink.contents g.E.Sink.has_failed _ _ _ notice (rounds.0 ++ told.0) c.tell_size.ensures
          (then_more g.E.Sink.contents g.E.Sink.has_failed _ _ _ rounds.0 told.0 rounds.2 told.2),
    )

pub returns-in_err-board-clause-prompts : goal.returns-in_err-board-clause-prompts
returns-in_err-board-clause-prompts g c =
    let p = err_from_is_err_and c.from_residual.result c.from_residual.ensures.1 in (
      [],
      rw (p.1, p.2) (inl (c.in_err-board.field-0.0, refl, c.in_err-board.ensures.fault, (refl, refl), refl)),
      none_more g.E.Sink.contents g.E.Sink.has_failed c.args.errors.now,
    )

pub returns-in_err-values-clause-prompts : goal.returns-in_err-values-clause-prompts
returns-in_err-values-clause-prompts g c =
    let p = err_from_is_err_and c.from_residual-in_err-values.result c.from_residual-in_err-values.ensures.1 in
    let notice = notice_for c.args.self.shows_size c.in_ok-board.board in (
      notice,
      rw (p.1, p.2) (inr (
        c.in_ok-board.board,
        c.in_ok-board.ensures.found,
        [],
        sym (append-nil notice),
        inl (refl, (refl, refl), refl),
      )),
      untold_more g.E.Sink.contents g.E.Sink.has_failed _ _ _ notice c.values.ensures.rounds.0 c.tell_size.ensures
          (rounds_none c.args.self.shows_size c.in_ok-board.board c.values.result _ c.in_err-values.was
          c.values.ensures.rounds.0 c.values.ensures.rounds.1) c.values.ensures.rounds.2,
    )
