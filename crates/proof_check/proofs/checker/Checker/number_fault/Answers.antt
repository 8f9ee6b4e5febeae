use Rattle.std.proofs.Common.{suc, refl, inl, arith}
use Rattle.std.proofs.lemmas.Bool.{ltb-true, ltb-false}
use Rattle.proof_text.specs.Proof.{request_row}
use Rattle.proof_check.proofs.FoundRows.{none_for, row_for}
use Rattle.proof_check.proofs.RowTests.{number_tested}
use Rattle.proof_check.proofs.checker.Checker.number_fault.Goals as goal

pub returns-in_default : goal.returns-in_default
returns-in_default c = λ configuration is number.
    let v = c.args.self.now in
    let all = c.adversary.ensures in
    inl (
      none_for v.board (request_row v.board) (λ r. r.at) (λ r. r.at)
          (λ r. refl) c.adversary.result.now v.proof.adversary
          all.rows all.ready.ranked c.args.rank configuration is number c.in_default.ensures,
      refl,
    )

pub returns : goal.returns
returns c = λ configuration is number.
    let v = c.args.self.now in
    let all = c.adversary.ensures in
    let row = request_row v.board c.in-Some.row.now in
    let found = row_for v.board (request_row v.board) (λ r. r.at) (λ r. r.at)
    (λ r. refl) c.adversary.result.now v.proof.adversary
    all.rows all.ready.ranked c.args.rank configuration is number c.in-Some.row.now c.in-Some.ensures in
    rw c.then_some.ensures (number_tested v.proof.adversary configuration row
    (suc c.args.most) c.args.missing c.args.large _ found
    (λ low. omega (arith, ltb-false c.args.most row.left low))
    (λ high. omega (arith, ltb-true c.args.most row.left high)))
