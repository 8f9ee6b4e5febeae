use Rattle.std.proofs.Common.{[], sym, true≢false, ◌∙◌}
use Rattle.std.proofs.lemmas.Result.{IfErr-weaker, IfOk-weaker, err_from_is_err_and}
use Rattle.std.specs.Prelude.{flat_map}
use Rattle.console.proofs.Cited.{none_more}
use Rattle.runs.specs.SolveRun.{IsSolved}
use Rattle.runs.proofs.SidedRuns.{solved, solved_by_classes, unmade, unshown, unsolved}
use Rattle.runs.proofs.ToldNotices.{small_unnoticed, text_noticed, text_noticed_before}
use Rattle.runs.proofs.work.Work.solution.Goals as goal
use Rattle.runs.proofs.work.Work.solution.Goals.{in-Small, in_default}

pub returns-then-matches-clause-notice : goal.returns-then-matches-clause-notice
returns-then-matches-clause-notice g c = (
  [],
  elim c.match-matches.branch [
    | in-Small small ↦
        rw small.in-Small.is (small_unnoticed c.args.text.now c.args.self.shows_size
        (λ board solved. IsSolved board solved.value (flat_map (λ part. part.items) solved.parts.items))
        c.solve_text_alone.result c.solve_text_alone.ensures.ok c.solve_text_alone.ensures.fault)
    | in_default large ↦ absurd (true≢false (sym c.if-matches.true ∙ large.matches-is))
  ],
  none_more g.E.Sink.contents g.E.Sink.has_failed c.args.errors.now,
)

pub returns-in_err-found-clause-fault : goal.returns-in_err-found-clause-fault
returns-in_err-found-clause-fault g c =
    let p = err_from_is_err_and c.from_residual.result c.from_residual.ensures.1 in
    rw (p.1, p.2) (unsolved c.args.self.limit c.args.side c.args.self.workers c.args.text.now c.in_err-found.field-0.0
    c.in_err-found.ensures.fault)

pub returns-in_err-found-clause-notice : goal.returns-in_err-found-clause-notice
returns-in_err-found-clause-notice g c =
    let p = err_from_is_err_and c.from_residual.result c.from_residual.ensures.1 in
    let told = c.board_with_values.ensures.notice in (
      told.0,
      rw (p.1, p.2) (text_noticed_before c.args.self.limit c.args.text.now c.args.self.shows_size told.0
          c.board_with_values.result told.1 c.in_err-found.field-0.0 c.in_err-found.was),
      told.2,
    )

pub returns-in-Small-limit-clause-ok : goal.returns-in-Small-limit-clause-ok
returns-in-Small-limit-clause-ok g c =
    rw c.in-Small-limit.is (IfOk-weaker c.solution_for.result _ _
    (λ made is. solved c.args.text.now c.in_ok-found.found.board c.args.self.workers c.args.side made.value _
    (rw c.in-Small-limit.is at c.in_ok-found.ensures.board) is) (rw c.new-moves.ensures at c.solution_for.ensures.ok))

pub returns-in-Small-limit-clause-fault : goal.returns-in-Small-limit-clause-fault
returns-in-Small-limit-clause-fault g c =
    IfErr-weaker c.solution_for.result _ _
    (λ fault is. unmade c.args.text.now c.in_ok-found.found.board c.args.self.workers c.args.self.limit c.args.side
    fault c.in_ok-found.ensures.board is) (rw c.new-moves.ensures at c.solution_for.ensures.fault)

pub returns-in-Small-limit-clause-notice : goal.returns-in-Small-limit-clause-notice
returns-in-Small-limit-clause-notice g c =
    let told = c.board_with_values.ensures.notice in (
      told.0,
      text_noticed c.args.self.limit c.args.text.now c.args.self.shows_size told.0 c.board_with_values.result told.1
          c.in_ok-found.found c.in_ok-found.was c.solution_for.result,
      told.2,
    )

pub returns-clause-ok : goal.returns-clause-ok
returns-clause-ok g c =
    rw c.in-Large.is (IfOk-weaker c.class_solution.result _ _
    (λ made is. solved_by_classes c.args.text.now c.in_ok-found.found.board c.args.self.workers c.args.side made.value _
    (rw c.in-Large.is at c.in_ok-found.ensures.board) is) (rw c.new-moves.ensures at c.class_solution.ensures.ok))

pub returns-clause-fault : goal.returns-clause-fault
returns-clause-fault g c =
    rw c.in-Large.is (IfErr-weaker c.class_solution.result _ _
    (λ fault is. unshown c.args.text.now c.in_ok-found.found.board c.args.self.workers c.args.side fault
    (rw c.in-Large.is at c.in_ok-found.ensures.board) is) (rw c.new-moves.ensures at c.class_solution.ensures.fault))

pub returns-clause-notice : goal.returns-clause-notice
returns-clause-notice g c =
    let told = c.board_with_values.ensures.notice in (
      told.0,
      text_noticed c.args.self.limit c.args.text.now c.args.self.shows_size told.0 c.board_with_values.result told.1
          c.in_ok-found.found c.in_ok-found.was c.class_solution.result,
      told.2,
    )
