use Rattle.positions.specs.Game.{Legal}
use Rattle.proof_text.specs.ClassProof.{class_request_row}
use Rattle.proof_text.specs.Positions.{asked_pebble}
use Rattle.proof_text.specs.Rules.{MeetsAnswer}
use Rattle.proof_text.proofs.Cited.{asked_below}
use Rattle.proof_check.specs.Refusals.{IsWrongAfter}
use Rattle.proof_check.specs.Inside.ClassChecker.{document_of, positions_for, refusals_for}
use Rattle.proof_check.proofs.AdversarySteps.{none_met, next_answer, first_wrong, answered_on, all_answered}
use Rattle.proof_check.proofs.class_adversary.AdversaryClassRowCheckedRowClassCheckerClassFault.fault.Goals as goal

pub loop-label-init : goal.loop-label-init
loop-label-init c =
    let checker = c.args.checker.now in
    let row = class_request_row checker.board.now c.args.self.now in
    none_met (Legal checker.board.now row.at (asked_pebble row))
    (MeetsAnswer (positions_for checker) checker.board.now (document_of checker).adversary row)
    c.legal_labels-legal.result c.walk-answers.result c.walk-answers.ensures
    (rw (c.row_places.ensures.value, c.asked_pebble-pebble.ensures.asked) at c.legal_labels-legal.ensures)

pub label_fault-requires-clause-legal : goal.label_fault-requires-clause-legal
label_fault-requires-clause-legal c =
    let checker = c.args.checker.now in
    let row = class_request_row checker.board.now c.args.self.now in
    rw c.asked_pebble-pebble.ensures.asked
    (next_answer (positions_for checker) checker.board.now (document_of checker).adversary row
    c.row_places.ensures.is_board.labels.1 c.loop-label.answers c.loop-label.invariant c.take_next.new.self
    c.in-Some.label c.in-Some.ensures)

pub returns-in-Some-label_fault-clause-fault : goal.returns-in-Some-label_fault-clause-fault
returns-in-Some-label_fault-clause-fault c =
    let checker = c.args.checker.now in
    let row = class_request_row checker.board.now c.args.self.now in
    first_wrong (positions_for checker) checker.board.now (document_of checker).adversary row
    c.row_places.ensures.is_board.labels.1 c.loop-label.answers c.loop-label.invariant
    (IsWrongAfter (refusals_for checker) (document_of checker).adversary row) _ c.take_next.new.self c.in-Some.label
    c.in-Some.ensures c.in-Some-label_fault.ensures

pub loop-label-preserved : goal.loop-label-preserved
loop-label-preserved c =
    let checker = c.args.checker.now in
    let row = class_request_row checker.board.now c.args.self.now in
    answered_on (positions_for checker) checker.board.now (document_of checker).adversary row
    c.row_places.ensures.is_board.labels.1 c.loop-label.answers c.loop-label.invariant c.take_next.new.self
    c.in-Some.label c.in-Some.ensures c.in_default-label_fault.ensures

pub returns-clause-fault : goal.returns-clause-fault
returns-clause-fault c =
    let checker = c.args.checker.now in
    let row = class_request_row checker.board.now c.args.self.now in
    all_answered (positions_for checker) checker.board.now (document_of checker).adversary row
    c.row_places.ensures.is_board.labels.1 c.loop-label.answers c.loop-label.invariant c.in_default.ensures
    (asked_below row c.requires.asked)
