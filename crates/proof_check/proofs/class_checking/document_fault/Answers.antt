use Rattle.std.proofs.Common.{None, Some, inl, inr, refl}
use Rattle.proof_text.specs.ClassProof.{class_answer_row, class_request_row, plain_class_proof}
use Rattle.proof_text.specs.Positions.{Positions, normal_positions}
use Rattle.proof_text.specs.Rules.{MeetsRequests, MeetsAnswers}
use Rattle.symmetries.specs.Elements.{least_by}
use Rattle.proof_check.specs.Inside.ClassChecker.{refusals_by}
use Rattle.proof_check.specs.Refusals.{StartServes, IsWrongAnswer, IsWrongRequest}
use Rattle.proof_check.proofs.CheckedRows.{answering, requesting}
use Rattle.proof_check.proofs.DocumentFaults.{by_adversary}
use Rattle.proof_check.proofs.FirstRow.{fault_of_seen}
use Rattle.proof_check.proofs.class_checking.document_fault.Goals as goal

pub first_fault-requires-after_bounds : goal.first_fault-requires-after_bounds
first_fault-requires-after_bounds g c = λ lifetimes lives. rw c.deref.ensures.value
    (answering _ (record {
      document = c.requires.document;
      numbers_are = c.requires.numbers;
      same_labels = c.requires.alike;
    }))

pub first_fault-requires-2-after_bounds : goal.first_fault-requires-2-after_bounds
first_fault-requires-2-after_bounds g c = λ lifetimes lives. rw c.deref-2.ensures.value
    (requesting _ (record {
      document = c.requires.document;
      numbers_are = c.requires.numbers;
      same_labels = c.requires.alike;
    }))

pub returns-in-Some-first_fault-clause-fault : goal.returns-in-Some-first_fault-clause-fault
returns-in-Some-first_fault-clause-fault g c =
    let board = c.args.board.now in
    let proof = plain_class_proof board c.args.proof.now in
    let positions : Positions = normal_positions (least_by board.labels c.args.alike.now.group) in
    let refusals = refusals_by board c.args.alike.now.group in
    let starts : StartServes positions board proof =
    record { labeller = c.in_default.ensures.fault; adversary = c.in_default-bound_fault.ensures } in
    let wrong =
    fault_of_seen (class_answer_row board) (MeetsRequests positions board proof.labeller)
    (IsWrongAnswer refusals board proof.labeller) c.args.proof.now.labeller.items proof.labeller
    (Some c.in-Some-first_fault.fault) refl (rw c.deref.ensures.value at c.in-Some-first_fault.ensures) in
    inr (inr (inl (starts, wrong)))

pub returns-clause-fault : goal.returns-clause-fault
returns-clause-fault g c =
    let board = c.args.board.now in
    let proof = plain_class_proof board c.args.proof.now in
    let positions : Positions = normal_positions (least_by board.labels c.args.alike.now.group) in
    let refusals = refusals_by board c.args.alike.now.group in
    let starts : StartServes positions board proof =
    record { labeller = c.in_default.ensures.fault; adversary = c.in_default-bound_fault.ensures } in
    let obeys =
    fault_of_seen (class_answer_row board) (MeetsRequests positions board proof.labeller)
    (IsWrongAnswer refusals board proof.labeller) c.args.proof.now.labeller.items proof.labeller
    None refl (rw c.deref.ensures.value at c.in_default-first_fault.ensures) in
    let found =
    fault_of_seen (class_request_row board) (MeetsAnswers positions board proof.adversary)
    (IsWrongRequest refusals board proof.adversary) c.args.proof.now.adversary.items proof.adversary
    c.first_fault-2.result refl (rw c.deref-2.ensures.value at c.first_fault-2.ensures) in
    by_adversary refusals board proof c.first_fault-2.result starts obeys found
