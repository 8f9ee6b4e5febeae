use Rattle.std.proofs.Common.{rules, ◌<◌, length, slice_index, ap, inl, inr}
use Rattle.std.proofs.lemmas.Bool.{iff_false}
use Rattle.positions.specs.Game.{moved}
use Rattle.proof_text.specs.ClassProof.{class_answer_row}
use Rattle.symmetries.specs.Elements.{least_by}
use Rattle.proof_check.specs.declared.class_fault.ClassFault.TheVariants as faults
use Rattle.proof_check.proofs.RowTests.{answer_is, match_then}
use Rattle.proof_check.proofs.class_labeller.answer_fault.Goals as goal

pub returns-then-not-is_legal : goal.returns-then-not-is_legal
returns-then-not-is_legal c =
    let board = c.args.checker.now.board.now in
    let row = c.args.row.now in
    let fits : c.args.pebble < length row.take = search rules in
    let legal = rw c.pebbles-pebbles.ensures.value at c.is_legal.ensures in (
      slice_index row.take c.args.pebble,
      answer_is board.pebbles row.take c.args.pebble c.requires.pebble fits,
      inl (
        iff_false legal c.if-not-is_legal.true,
        ap
            (λ at. faults.IllegalAnswer at c.args.pebble) c.requires.at,
      ),
    )

pub order_after-result-requires-clause-places : goal.order_after-result-requires-clause-places
order_after-result-requires-clause-places c = rw c.pebbles-pebbles.ensures.value c.requires.row.at

pub order_after-result-requires-clause-arranged : goal.order_after-result-requires-clause-arranged
order_after-result-requires-clause-arranged c = rw c.pebbles-pebbles.ensures.value c.requires.row.in_order

pub returns : goal.returns
returns c =
    let board = c.args.checker.now.board.now in
    let row = c.args.row.now in
    let pebble = c.args.pebble in
    let label = slice_index row.take pebble in
    let fits : pebble < length row.take = search rules in
    let answer = answer_is board.pebbles row.take pebble c.requires.pebble fits in
    let legal = (rw c.pebbles-pebbles.ensures.value at c.is_legal.ensures).0 c.if-not-is_legal.false in
    let after = rw c.pebbles-pebbles.ensures.value at c.order_after-result.ensures in
    let wanted = least_by board.labels c.args.checker.now.alike.now.group
    (moved (class_answer_row board row).at pebble label) in
    match_then c.turns_fault.result
    (λ serves. record { label = label; answer = answer; legal = legal; serves = serves })
    (λ fault wrong. (label, answer, inr (legal, wrong.0, rw c.requires.at at wrong.1)))
    (rw c.after_one.ensures at c.turns_fault.ensures wanted after.configuration after.number)
