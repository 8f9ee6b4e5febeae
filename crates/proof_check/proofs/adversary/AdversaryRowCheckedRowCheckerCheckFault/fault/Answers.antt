use Rattle.std.proofs.Common.{arith}
use Rattle.positions.specs.Game.{Legal}
use Rattle.positions.specs.Ranks.{configuration_at}
use Rattle.positions.proofs.Cited.{configuration_at_is}
use Rattle.proof_text.specs.Proof.{request_row}
use Rattle.proof_text.specs.Positions.{configuration_positions}
use Rattle.proof_text.specs.Rules.{MeetsAnswer}
use Rattle.proof_check.specs.CheckFaults.{rank_refusals}
use Rattle.proof_check.specs.Refusals.{IsWrongAfter}
use Rattle.proof_check.proofs.AdversarySteps.{none_met, next_answer, first_wrong, answered_on, all_answered}
use Rattle.proof_check.proofs.adversary.AdversaryRowCheckedRowCheckerCheckFault.fault.Goals as goal

pub loop-label-init : goal.loop-label-init
loop-label-init c =
    let v = c.args.checker.now in
    none_met (Legal v.board (configuration_at v.board c.args.self.now.at) c.args.self.now.ask)
    (MeetsAnswer configuration_positions v.board v.proof.adversary (request_row v.board c.args.self.now))
    c.answers.result c.walk-answers.result c.walk-answers.ensures (rw c.moves-moves.ensures at c.answers.ensures.bits)

pub label_fault-requires-clause-legal : goal.label_fault-requires-clause-legal
label_fault-requires-clause-legal c =
    let v = c.args.checker.now in
    next_answer configuration_positions v.board v.proof.adversary (request_row v.board c.args.self.now)
    c.requires.is_board.labels.1 c.loop-label.answers c.loop-label.invariant c.take_next.new.self c.in-Some.label
    c.in-Some.ensures

pub returns-in-Some-label_fault-clause-fault : goal.returns-in-Some-label_fault-clause-fault
returns-in-Some-label_fault-clause-fault c =
    let v = c.args.checker.now in
    let row = request_row v.board c.args.self.now in
    first_wrong configuration_positions v.board v.proof.adversary row c.requires.is_board.labels.1
    c.loop-label.answers c.loop-label.invariant (IsWrongAfter (rank_refusals v.board) v.proof.adversary row) _
    c.take_next.new.self c.in-Some.label c.in-Some.ensures c.in-Some-label_fault.ensures

pub loop-label-preserved : goal.loop-label-preserved
loop-label-preserved c =
    let v = c.args.checker.now in
    answered_on configuration_positions v.board v.proof.adversary (request_row v.board c.args.self.now)
    c.requires.is_board.labels.1 c.loop-label.answers c.loop-label.invariant c.take_next.new.self c.in-Some.label
    c.in-Some.ensures c.in_default-label_fault.ensures

pub returns-clause-fault : goal.returns-clause-fault
returns-clause-fault c =
    let v = c.args.checker.now in
    let is = configuration_at_is v.board c.args.self.now.at c.requires.is_rank in
    all_answered configuration_positions v.board v.proof.adversary (request_row v.board c.args.self.now)
    c.requires.is_board.labels.1 c.loop-label.answers c.loop-label.invariant c.in_default.ensures
    (omega (arith, is.each_pebble, c.requires.is_pebble))
