use Rattle.std.proofs.lemmas.Result.{err_from_is_err_and}
use Rattle.runs.proofs.ToldNotices.{text_noticed, text_noticed_before}
use Rattle.runs.proofs.work.Work.summary_of_text.Goals as goal

pub returns-in_err-found-clause-notice : goal.returns-in_err-found-clause-notice
returns-in_err-found-clause-notice g c =
    let p = err_from_is_err_and c.from_residual.result c.from_residual.ensures.1 in
    let told = c.board_with_values.ensures.notice in (
      told.0,
      rw (p.1, p.2) (text_noticed_before c.args.self.limit c.args.text.now c.args.self.shows_size told.0
          c.board_with_values.result told.1 c.in_err-found.field-0.0 c.in_err-found.was),
      told.2,
    )

pub returns-in_err-summary_by-clause-notice : goal.returns-in_err-summary_by-clause-notice
returns-in_err-summary_by-clause-notice g c =
    let told = c.board_with_values.ensures.notice in (
      told.0,
      text_noticed c.args.self.limit c.args.text.now c.args.self.shows_size told.0 c.board_with_values.result told.1
          c.in_ok-found.found c.in_ok-found.was _,
      told.2,
    )

pub returns-clause-notice : goal.returns-clause-notice
returns-clause-notice g c =
    let told = c.board_with_values.ensures.notice in (
      told.0,
      text_noticed c.args.self.limit c.args.text.now c.args.self.shows_size told.0 c.board_with_values.result told.1
          c.in_ok-found.found c.in_ok-found.was _,
      told.2,
    )
