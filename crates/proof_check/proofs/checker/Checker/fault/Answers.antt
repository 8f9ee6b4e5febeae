use Rattle.std.proofs.Common.{None, Some, ap, ◌∙◌, inl, inr}
use Rattle.proof_text.specs.Proof.{answer_row, answer_rows, request_row, request_rows}
use Rattle.proof_text.specs.Positions.{configuration_positions}
use Rattle.proof_text.specs.Rules.{MeetsRequests, MeetsAnswers}
use Rattle.proof_check.specs.CheckFaults.{rank_refusals}
use Rattle.proof_check.specs.Refusals.{StartServes, IsWrongAnswer, IsWrongRequest}
use Rattle.proof_check.proofs.FirstRow.{fault_of_seen}
use Rattle.proof_check.proofs.DocumentFaults.{by_adversary}
use Rattle.proof_check.proofs.RowTests.{match_then}
use Rattle.proof_check.proofs.checker.Checker.fault.Goals as goal

pub returns-in-Some-first_fault : goal.returns-in-Some-first_fault
returns-in-Some-first_fault g c =
    let v = c.args.self.now in
    let starts : StartServes configuration_positions v.board v.proof =
    record { labeller = c.in_default.ensures; adversary = c.in_default-bound_fault.ensures } in
    let rows = ap (answer_rows v.board) c.rows.ensures ∙ c.labeller.ensures.rows in
    let wrong =
    fault_of_seen (answer_row v.board) (MeetsRequests configuration_positions v.board v.proof.labeller)
    (IsWrongAnswer (rank_refusals v.board) v.board v.proof.labeller) _ v.proof.labeller
    (Some c.in-Some-first_fault.fault) rows c.in-Some-first_fault.ensures in
    inr (inr (inr (inl (starts, wrong))))

pub returns : goal.returns
returns g c =
    let v = c.args.self.now in
    let starts : StartServes configuration_positions v.board v.proof =
    record { labeller = c.in_default.ensures; adversary = c.in_default-bound_fault.ensures } in
    let rows = ap (answer_rows v.board) c.rows.ensures ∙ c.labeller.ensures.rows in
    let obeys =
    fault_of_seen (answer_row v.board) (MeetsRequests configuration_positions v.board v.proof.labeller)
    (IsWrongAnswer (rank_refusals v.board) v.board v.proof.labeller) _ v.proof.labeller
    None rows c.in_default-first_fault.ensures in
    let requests = ap (request_rows v.board) c.rows-2.ensures ∙ c.adversary.ensures.rows in
    match_then c.first_fault-2.result (λ rules. rules) (λ fault wrong. inr wrong)
    (by_adversary (rank_refusals v.board) v.board v.proof c.first_fault-2.result starts obeys
    (fault_of_seen (request_row v.board) (MeetsAnswers configuration_positions v.board v.proof.adversary)
    (IsWrongRequest (rank_refusals v.board) v.board v.proof.adversary) _ v.proof.adversary
    c.first_fault-2.result requests c.first_fault-2.ensures))
