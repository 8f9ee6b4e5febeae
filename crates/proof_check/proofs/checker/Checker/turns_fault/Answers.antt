use Rattle.std.proofs.Common.{rules, ◌↔◌, IsTrue, not, refl, inl}
use Rattle.proof_text.specs.Proof.{answer_row}
use Rattle.proof_text.specs.Rules.{IsEnough, IsWanted}
use Rattle.proof_check.proofs.FoundRows.{none_for, row_for}
use Rattle.proof_check.proofs.RowTests.{turns_tested}
use Rattle.proof_check.proofs.checker.Checker.turns_fault.Goals as goal

pub returns-in_default : goal.returns-in_default
returns-in_default c = λ configuration is number.
    let v = c.args.self.now in
    let all = c.labeller.ensures in (
      search rules,
      inl (
        none_for v.board (answer_row v.board) (λ r. r.at) (λ r. r.at) (λ r. refl) c.labeller.result.now v.proof.labeller
            all.rows all.ready.ranked c.args.rank configuration is number c.in_default.ensures,
        refl,
      ),
    )

pub returns : goal.returns
returns c = λ configuration is number.
    let v = c.args.self.now in
    let all = c.labeller.ensures in
    let row = answer_row v.board c.in-Some.row.now in
    let found = row_for v.board (answer_row v.board) (λ r. r.at) (λ r. r.at)
    (λ r. refl) c.labeller.result.now v.proof.labeller
    all.rows all.ready.ranked c.args.rank configuration is number c.in-Some.row.now c.in-Some.ensures in
    let some : IsWanted c.args.wanted = search rules in
    let enough : IsTrue (not c.lt.result) ↔ IsEnough c.args.wanted row.turns = search rules in
    rw c.then_some.ensures
    (turns_tested v.proof.labeller configuration row c.args.wanted c.args.missing c.args.short c.lt.result found some
    enough)
