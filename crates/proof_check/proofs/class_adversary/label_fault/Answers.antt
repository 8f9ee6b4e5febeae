use Rattle.std.proofs.Common.{◌≡◌, ℕ, suc, ◌-◌, ◌<◌, List, ap, subst, inl, inr, arith}
use Rattle.positions.specs.Game.{moved}
use Rattle.positions.specs.Table.{RequestRow}
use Rattle.proof_text.specs.Rules.{IsListedBelow}
use Rattle.proof_text.specs.ClassProof.{class_request_row, class_request_rows}
use Rattle.proof_text.specs.Positions.{asked_pebble}
use Rattle.symmetries.specs.Elements.{least_by}
use Rattle.proof_check.specs.declared.class_fault.ClassFault.TheVariants as faults
use Rattle.proof_check.proofs.RowTests.{match_then}
use Rattle.proof_check.proofs.class_adversary.label_fault.Goals as goal

pub order_after-result-requires-clause-places : goal.order_after-result-requires-clause-places
order_after-result-requires-clause-places c = rw c.pebbles-pebbles.ensures.value c.requires.row.at

pub order_after-result-requires-clause-arranged : goal.order_after-result-requires-clause-arranged
order_after-result-requires-clause-arranged c = rw c.pebbles-pebbles.ensures.value c.requires.row.in_order

pub returns-then-row-eq0 : goal.returns-then-row-eq0
returns-then-row-eq0 c = inl (c.if-row-eq0.true, ap (λ at. faults.NotStuck at c.args.label) c.requires.at)

pub returns : goal.returns
returns c =
    let board = c.args.checker.now.board.now in
    let group = c.args.checker.now.alike.now.group in
    let rows : List RequestRow = class_request_rows board c.args.checker.now.proof.now.adversary.items in
    let row : RequestRow = class_request_row board c.args.row.now in
    let pebble = c.args.pebble in
    let label = c.args.label in
    let after = rw c.pebbles-pebbles.ensures.value at c.order_after-result.ensures in
    let wanted = least_by board.labels group (moved row.at pebble label) in
    let some : 0 < row.left = omega (arith, c.if-row-eq0.false) in
    let one : suc (row.left - 1) ≡ row.left = omega (arith, some) in
    let asked : least_by board.labels group (moved row.at pebble label)
    ≡ least_by board.labels group (moved row.at (asked_pebble row) label) =
    ap (λ (p : ℕ). least_by board.labels group (moved row.at p label)) c.requires.pebble in
    match_then c.number_fault.result
    (λ listed _. subst (λ l. IsListedBelow rows l row.left) asked
    (subst (IsListedBelow rows (least_by board.labels group (moved row.at pebble label))) one listed))
    (λ fault wrong. inr (some, rw (one, c.requires.at, asked) at wrong))
    (c.number_fault.ensures wanted after.configuration after.number)
