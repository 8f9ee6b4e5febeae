use Rattle.std.proofs.Common.{rules, ◌↔◌, IsTrue, not, refl, inl}
use Rattle.proof_text.specs.Rules.{IsEnough, IsWanted}
use Rattle.proof_text.specs.ClassProof.{class_answer_row, class_answer_rows}
use Rattle.proof_check.proofs.CheckedRows.{labeller_in_order, none_for, row_for}
use Rattle.proof_check.proofs.RowTests.{turns_tested}
use Rattle.proof_check.proofs.class_labeller.turns_fault.Goals as goal

pub find-requires-clause-rows : goal.find-requires-clause-rows
find-requires-clause-rows c =
    rw c.deref.ensures.value
    (labeller_in_order c.args.checker.now.board.now c.args.checker.now.proof.now c.requires.ready.document)

pub returns-in_default : goal.returns-in_default
returns-in_default c = λ wanted is same.
    let board = c.args.checker.now.board.now in
    let some : IsWanted c.args.wanted = search rules in (
      some,
      inl (
        none_for board (class_answer_row board) (λ r. r.at) (λ r. r.at)
            (λ r. refl) c.args.checker.now.proof.now.labeller.items wanted
            (rw c.deref.ensures.value at c.in_default.ensures wanted is same),
        refl,
      ),
    )

pub returns : goal.returns
returns c = λ wanted is same.
    let board = c.args.checker.now.board.now in
    let rows = c.args.checker.now.proof.now.labeller.items in
    let row = class_answer_row board c.in-Some.row.now in
    let found = row_for board (class_answer_row board) (λ r. r.at) (λ r. r.at) (λ r. refl) rows wanted
    c.in-Some.row.now (rw c.deref.ensures.value at c.in-Some.ensures wanted is same) in
    let some : IsWanted c.args.wanted = search rules in
    let enough : IsTrue (not c.lt.result) ↔ IsEnough c.args.wanted row.turns = search rules in
    rw c.then_some.ensures
    (turns_tested (class_answer_rows board rows) wanted row c.args.wanted c.args.missing c.args.short c.lt.result found
    some
    enough)
