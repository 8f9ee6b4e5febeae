use Rattle.std.proofs.Common.{◌<◌, ◌≤◌, refl, arith, inl, inr}
use Rattle.std.proofs.lemmas.Bool.{leb-true, cases_eq}
use Rattle.proof_text.specs.Proof.{answer_row}
use Rattle.proof_check.proofs.FoundRows.{row_for}
use Rattle.proof_check.proofs.checker.Checker.serves.Goals as goal

pub returns : goal.returns
returns c = λ yes configuration is number wanted.
    let v = c.args.self.now in
    let all = c.labeller.ensures in
    let most : c.least_count.result ≤ c.count.result = leb-true c.least_count.result c.count.result yes in
    let some : 0 < c.count.result = elim (cases_eq c.least_count.result 0) [
      | inl none ↦ absurd (c.least_count.ensures.none none wanted)
      | inr differs ↦ omega (arith, most, differs)
    ] in
    let held = c.count.ensures some in
    let found = row_for v.board (answer_row v.board) (λ r. r.at) (λ r. r.at) (λ r. refl) c.labeller.result.now
    v.proof.labeller all.rows all.ready.ranked c.args.rank configuration is number held.0 held.1 in
    record {
      row = answer_row v.board held.0;
      among = found.among;
      at = found.at_is;
      enough = c.least_count.ensures.enough held.0.turns (omega (arith, most, held.2));
    }
