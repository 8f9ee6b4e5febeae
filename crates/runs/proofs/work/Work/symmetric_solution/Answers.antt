use Rattle.std.proofs.lemmas.Result.{IfErr-weaker, IfOk-weaker, err_from_is_err_and}
use Rattle.runs.proofs.GivenSymmetries.{maps_of, spells_few, unshown_up_to, without_symmetries, without_values}
use Rattle.runs.proofs.work.Work.symmetric_solution.Goals as goal

pub returns-in_err-symmetries-clause-fault : goal.returns-in_err-symmetries-clause-fault
returns-in_err-symmetries-clause-fault g c =
    let p = err_from_is_err_and c.from_residual.result c.from_residual.ensures.1 in
    let board = c.args.board.now in
    rw (p.1, p.2) (without_values board c.requires.board c.args.text.now c.args.side c.in_err-symmetries.field-0.0
    (without_symmetries board c.requires.board c.args.text.now c.in_err-symmetries.field-0.0
    c.in_err-symmetries.ensures.fault))

pub values-requires-clause-given : goal.values-requires-clause-given
values-requires-clause-given g c = λ κs lives. (c.args.text.now, c.in_ok-symmetries.ensures.found)

pub returns-in_err-values-clause-fault : goal.returns-in_err-values-clause-fault
returns-in_err-values-clause-fault g c =
    let p = err_from_is_err_and c.from_residual-in_err-values.result c.from_residual-in_err-values.ensures.1 in
    let board = c.args.board.now in
    rw (p.1, p.2) (without_values board c.requires.board c.args.text.now c.args.side _
    (c.in_err-values.ensures.fault c.args.text.now c.in_ok-symmetries.ensures.found))

pub solution_up_to-requires-clause-given : goal.solution_up_to-requires-clause-given
solution_up_to-requires-clause-given g c = λ lifetimes lives.
    (c.args.text.now, rw c.new-moves.ensures c.in_ok-symmetries.ensures.found)

pub returns-clause-ok : goal.returns-clause-ok
returns-clause-ok g c =
    let board = c.args.board.now in
    let given = c.in_ok-symmetries.symmetries in
    let spells = spells_few board c.requires.board c.args.text.now given c.in_ok-symmetries.ensures.found
    c.in_ok-values.ensures.few in
    IfOk-weaker c.solution_up_to.result _ _ (λ made is. (maps_of board given, spells, is))
    (rw c.new-moves.ensures at c.solution_up_to.ensures.ok)

pub returns-clause-fault : goal.returns-clause-fault
returns-clause-fault g c =
    let board = c.args.board.now in
    let given = c.in_ok-symmetries.symmetries in
    let spells = spells_few board c.requires.board c.args.text.now given c.in_ok-symmetries.ensures.found
    c.in_ok-values.ensures.few in
    IfErr-weaker c.solution_up_to.result _ _
    (λ fault is. unshown_up_to board c.requires.board c.args.text.now c.args.side (maps_of board given) fault spells is)
    (rw c.new-moves.ensures at c.solution_up_to.ensures.fault)
