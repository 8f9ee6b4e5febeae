use Rattle.std.proofs.lemmas.Result.{err_from_is_err_and}
use Rattle.runs.proofs.GivenSymmetries.{few_given, without_symmetries}
use Rattle.runs.proofs.work.Work.summary_up_to.Goals as goal

pub returns-in_err-symmetries-clause-fault : goal.returns-in_err-symmetries-clause-fault
returns-in_err-symmetries-clause-fault g c =
    let p = err_from_is_err_and c.from_residual.result c.from_residual.ensures.1 in
    rw (p.1, p.2) (without_symmetries c.args.board.now c.requires.board c.args.text.now c.in_err-symmetries.field-0.0
    c.in_err-symmetries.ensures.fault)

pub values-requires-clause-given : goal.values-requires-clause-given
values-requires-clause-given g c = λ κs lives. (c.args.text.now, c.in_ok-symmetries.ensures.found)

pub returns-in_err-values-clause-fault : goal.returns-in_err-values-clause-fault
returns-in_err-values-clause-fault g c =
    let p = err_from_is_err_and c.from_residual-in_err-values.result c.from_residual-in_err-values.ensures.1 in
    rw (p.1, p.2) (c.in_err-values.ensures.fault c.args.text.now c.in_ok-symmetries.ensures.found)

pub sizes-requires : goal.sizes-requires
sizes-requires g c = rw c.in_ok-values.ensures.values c.in_ok-symmetries.ensures.found.once

pub returns-in_err-report_by-in-Report-clause-fault : goal.returns-in_err-report_by-in-Report-clause-fault
returns-in_err-report_by-in-Report-clause-fault g c =
    let from = c.from_residual-in_err-report_by-in-Report in
    let p = err_from_is_err_and from.result from.ensures.1 in
    rw (p.1, p.2) tt

pub returns-in-Report-clause-summary : goal.returns-in-Report-clause-summary
returns-in-Report-clause-summary g c =
    rw c.in-Report.is (
      few_given c.args.board.now c.requires.board c.args.text.now c.in_ok-symmetries.symmetries
          c.in_ok-symmetries.ensures.found c.in_ok-values.ensures.few,
      rw c.new-moves.ensures at c.in_ok-report_by-in-Report.ensures,
    )

pub returns-clause-summary : goal.returns-clause-summary
returns-clause-summary g c =
    rw c.in-Starts.is (
      few_given c.args.board.now c.requires.board c.args.text.now c.in_ok-symmetries.symmetries
          c.in_ok-symmetries.ensures.found c.in_ok-values.ensures.few,
      rw c.new-moves.ensures at c.in_ok-starts_by-in-Starts.ensures,
    )
