use Rattle.std.proofs.Common.{rules, ◌<◌, length, slice_index, inl, inr, sym, ap}
use Rattle.std.proofs.lemmas.Bool.{iff_false}
use Rattle.positions.proofs.Cited.{rank_of-configuration_at}
use Rattle.positions.specs.Game.{moved}
use Rattle.positions.specs.Ranks.{configuration_at}
use Rattle.proof_check.specs.declared.fault.CheckFault.TheVariants as faults
use Rattle.proof_check.proofs.RowTests.{answer_is, result_is, match_then}
use Rattle.proof_check.proofs.checker.Checker.answer_fault.Goals as goal

pub returns-then-not-is_legal : goal.returns-then-not-is_legal
returns-then-not-is_legal c =
    let board = c.args.self.now.board in
    let row = c.args.row.now in
    let fits : c.args.pebble < length row.take = search rules in
    let legal = rw c.requires.moves at c.is_legal.ensures in
    let rank_is = sym (rank_of-configuration_at board row.at c.requires.row.is_rank) in (
      slice_index row.take c.args.pebble,
      answer_is board.pebbles row.take c.args.pebble c.requires.pebble fits,
      inl (iff_false legal c.if-not-is_legal.true, ap (λ at. faults.IllegalAnswer at c.args.pebble) rank_is),
    )

pub returns : goal.returns
returns c =
    let v = c.args.self.now in
    let row = c.args.row.now in
    let pebble = c.args.pebble in
    let label = slice_index row.take pebble in
    let fits : pebble < length row.take = search rules in
    let answer = answer_is v.board.pebbles row.take pebble c.requires.pebble fits in
    let legal = (rw c.requires.moves at c.is_legal.ensures).0 c.if-not-is_legal.false in
    let result = moved (configuration_at v.board row.at) pebble label in
    let is = result_is v.board row.at pebble label c.requires.row.is_rank legal.is_label in
    let rank_is = rank_of-configuration_at v.board row.at c.requires.row.is_rank in
    match_then c.turns_fault.result
    (λ serves. record { label = label; answer = answer; legal = legal; serves = serves })
    (λ fault wrong. rw rank_is (label, answer, inr (legal, wrong.0, wrong.1)))
    (rw c.requires.left at c.turns_fault.ensures result is (rw c.requires.moves at c.after-result.ensures.rank))

pub returns-then-serves : goal.returns-then-serves
returns-then-serves c =
    let v = c.args.self.now in
    let row = c.args.row.now in
    let pebble = c.args.pebble in
    let label = slice_index row.take pebble in
    let fits : pebble < length row.take = search rules in
    let legal = (rw c.requires.moves at c.is_legal.ensures).0 c.if-not-is_legal.false in
    let result = moved (configuration_at v.board row.at) pebble label in
    record {
      label = label;
      answer = answer_is v.board.pebbles row.take pebble c.requires.pebble fits;
      legal = legal;
      serves = rw c.requires.left at c.serves.ensures c.if-serves.true result
          (result_is v.board row.at pebble label c.requires.row.is_rank legal.is_label)
          (rw c.requires.moves at c.after-result.ensures.rank);
    }
