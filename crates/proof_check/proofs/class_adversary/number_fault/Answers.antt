use Rattle.std.proofs.Common.{suc, refl, inl, arith}
use Rattle.std.proofs.lemmas.Bool.{ltb-true, ltb-false}
use Rattle.proof_text.specs.ClassProof.{class_request_row, class_request_rows}
use Rattle.proof_check.proofs.CheckedRows.{adversary_in_order, none_for, row_for}
use Rattle.proof_check.proofs.RowTests.{number_tested}
use Rattle.proof_check.proofs.class_adversary.number_fault.Goals as goal

pub find-requires-clause-rows : goal.find-requires-clause-rows
find-requires-clause-rows c =
    rw c.deref.ensures.value
    (adversary_in_order c.args.checker.now.board.now c.args.checker.now.proof.now c.requires.ready.document)

pub returns-in_default : goal.returns-in_default
returns-in_default c = λ wanted is same.
    let board = c.args.checker.now.board.now in
    inl (
      none_for board (class_request_row board) (λ r. r.at) (λ r. r.at)
          (λ r. refl) c.args.checker.now.proof.now.adversary.items wanted
          (rw c.deref.ensures.value at c.in_default.ensures wanted is same),
      refl,
    )

pub returns : goal.returns
returns c = λ wanted is same.
    let board = c.args.checker.now.board.now in
    let rows = c.args.checker.now.proof.now.adversary.items in
    let row = class_request_row board c.in-Some.row.now in
    let found = row_for board (class_request_row board) (λ r. r.at) (λ r. r.at) (λ r. refl) rows wanted
    c.in-Some.row.now (rw c.deref.ensures.value at c.in-Some.ensures wanted is same) in
    rw c.then_some.ensures (number_tested (class_request_rows board rows) wanted row
    (suc c.args.most) c.args.missing c.args.large _ found
    (λ low. omega (arith, ltb-false c.args.most row.left low))
    (λ high. omega (arith, ltb-true c.args.most row.left high)))
