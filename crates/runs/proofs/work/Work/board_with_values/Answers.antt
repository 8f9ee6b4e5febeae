use Rattle.std.proofs.Common.{[], ◌++◌, inl, refl}
use Rattle.std.proofs.lemmas.Result.{err_from_is_err_and}
use Rattle.console.proofs.Cited.{none_more, then_more}
use Rattle.runs.specs.Notices.{notice_for}
use Rattle.runs.proofs.ToldNotices.{err_again, noticed_text}
use Rattle.runs.proofs.work.Work.board_with_values.Goals as goal

pub returns-in_err-board-clause-notice : goal.returns-in_err-board-clause-notice
returns-in_err-board-clause-notice g c =
    let p = err_from_is_err_and c.from_residual.result c.from_residual.ensures.1 in (
      [],
      rw (p.1, p.2) (inl (c.in_err-board.field-0.0, refl, c.in_err-board.ensures.fault, tt, refl)),
      none_more g.E.Sink.contents g.E.Sink.has_failed c.args.errors.now,
    )

pub returns-in_err-values-clause-notice : goal.returns-in_err-values-clause-notice
returns-in_err-values-clause-notice g c =
    let p = err_from_is_err_and c.from_residual-in_err-values.result c.from_residual-in_err-values.ensures.1 in
    let notice = notice_for c.args.self.shows_size c.in_ok-board.board in
    let rounds = c.values.ensures.rounds in (
      notice ++ rounds.0,
      rw (p.1, p.2) (noticed_text c.args.self.limit c.args.text.now c.args.self.shows_size c.in_ok-board.board
          c.in_ok-board.ensures.found c.values.result _
          (λ refused. err_again c.values.result c.in_err-values.field-0.0 c.in_err-values.was refused)
          rounds.0 rounds.1),
      then_more g.E.Sink.contents g.E.Sink.has_failed c.args.errors.now c.tell_size.new.errors c.values.new.errors
          notice rounds.0 c.tell_size.ensures rounds.2,
    )

pub returns-clause-notice : goal.returns-clause-notice
returns-clause-notice g c =
    let notice = notice_for c.args.self.shows_size c.in_ok-board.board in
    let rounds = c.values.ensures.rounds in (
      notice ++ rounds.0,
      noticed_text c.args.self.limit c.args.text.now c.args.self.shows_size c.in_ok-board.board
          c.in_ok-board.ensures.found c.values.result _
          (λ refused. let bad : ⊥ = (let was = c.in_ok-values.was in cc) in absurd bad) rounds.0 rounds.1,
      then_more g.E.Sink.contents g.E.Sink.has_failed c.args.errors.now c.tell_size.new.errors c.values.new.errors
          notice rounds.0 c.tell_size.ensures rounds.2,
    )
