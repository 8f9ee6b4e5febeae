use Rattle.std.proofs.Common.{◌≡◌, ◌^◌, ◌<◌, ◌∙◌, refl, arith}
use Rattle.std.proofs.lemmas.Bool.{both_ways}
use Rattle.std.proofs.lemmas.List.Elements.{All-from_get_or}
use Rattle.std.proofs.lemmas.Result.{err_from_is_err_and}
use Rattle.board_text.specs.PlainBoard.{plain_board}
use Rattle.board_text.proofs.Places.{board_from_parts}
use Rattle.board_text.proofs.PairFaults.{labels_fault, pebbles_fault, memory_fault, start_fault, parts_fault}
use Rattle.board_text.proofs.building.build_parts.Goals.{then-labels-eq0-via-then-labels-eq0}
use Rattle.board_text.proofs.building.build_parts.Goals.{then-labels-eq0-via-else-labels-eq0+then-labels-gt-MAX_LABELS}
use Rattle.board_text.proofs.building.build_parts.Goals.{then-pebbles-eq0-via-then-pebbles-eq0}
use Rattle.board_text.proofs.building.build_parts.Goals.{then-pebbles-eq0-via-else-pebbles-eq0+then-pebbles-gt-MAX_PEBBLES}
use Rattle.board_text.proofs.building.build_parts.Goals as goal

pub returns-then-labels-eq0-clause-fault : goal.returns-then-labels-eq0-clause-fault
returns-then-labels-eq0-clause-fault c =
    let b = plain_board c.args.labels c.args.pebbles c.args.start.now c.args.pairs.now in
    rw c.at.ensures (labels_fault b (omega arith)
    (λ h. elim c.then-labels-eq0.branch [
      | then-labels-eq0-via-then-labels-eq0 w ↦
          omega (arith, w.if-labels-eq0.true, h.0)
      | then-labels-eq0-via-else-labels-eq0+then-labels-gt-MAX_LABELS w ↦
          omega (arith, w.if-labels-gt-MAX_LABELS.true, h.1)
    ]))

pub returns-then-pebbles-eq0-clause-fault : goal.returns-then-pebbles-eq0-clause-fault
returns-then-pebbles-eq0-clause-fault c =
    let b = plain_board c.args.labels c.args.pebbles c.args.start.now c.args.pairs.now in
    rw c.at-then-pebbles-eq0.ensures
    (pebbles_fault b (omega arith, omega arith) (omega arith)
    (λ h. elim c.then-pebbles-eq0.branch [
      | then-pebbles-eq0-via-then-pebbles-eq0 w ↦
          omega (
            arith,
            w.if-pebbles-eq0.true,
            h.0,
          )
      | then-pebbles-eq0-via-else-pebbles-eq0+then-pebbles-gt-MAX_PEBBLES w ↦
          omega (arith, w.if-pebbles-gt-MAX_PEBBLES.true, h.1)
    ]))

pub returns-in_err-beats-clause-fault : goal.returns-in_err-beats-clause-fault
returns-in_err-beats-clause-fault c =
    let b = plain_board c.args.labels c.args.pebbles c.args.start.now c.args.pairs.now in
    let p = err_from_is_err_and c.from_residual.result c.from_residual.ensures.1 in
    rw (p.1, p.2) (memory_fault b (omega arith, omega arith) (omega arith, omega arith))

pub returns-in_err-own_start-clause-fault : goal.returns-in_err-own_start-clause-fault
returns-in_err-own_start-clause-fault c =
    let b = plain_board c.args.labels c.args.pebbles c.args.start.now c.args.pairs.now in
    let p = err_from_is_err_and c.from_residual-in_err-own_start.result c.from_residual-in_err-own_start.ensures.1 in
    rw (p.1, p.2) (memory_fault b (omega arith, omega arith) (omega arith, omega arith))

pub returns-then-not-is_start-clause-fault : goal.returns-then-not-is_start-clause-fault
returns-then-not-is_start-clause-fault c =
    let b = plain_board c.args.labels c.args.pebbles c.args.start.now c.args.pairs.now in
    rw c.at-then-not-is_start.ensures
    (start_fault b (omega arith, omega arith) (omega arith, omega arith)
    (All-from_get_or (λ n. n < 2 ^ 16) c.args.start.now 0 (λ k lt. omega (arith, c.type_inv.start k)))
    (λ are. both_ways c.is_start.result c.if-not-is_start.true (c.is_start.ensures.1 are)))

pub returns-in_err-push_pairs-clause-fault : goal.returns-in_err-push_pairs-clause-fault
returns-in_err-push_pairs-clause-fault c =
    let b = plain_board c.args.labels c.args.pebbles c.args.start.now c.args.pairs.now in
    let p = err_from_is_err_and c.from_residual-in_err-push_pairs.result c.from_residual-in_err-push_pairs.ensures.1 in
    rw (p.1, p.2) (parts_fault b c.in_err-push_pairs.field-0.0 (omega arith, omega arith) (omega arith, omega arith)
    (c.is_start.ensures.0 c.if-not-is_start.false)
    (rw c.in_ok-beats.ensures.0 at c.in_err-push_pairs.ensures.fault))

pub invariant_of-result : goal.invariant_of-result
invariant_of-result c =
    let labels : c.push_pairs.new.beats.labels ≡ c.args.labels =
    c.push_pairs.ensures.labels ∙ c.in_ok-beats.ensures.0 in
    let pushed = rw c.in_ok-beats.ensures.0 at c.in_ok-push_pairs.ensures.pushed in
    rw (labels, c.copy_from_slice.ensures.items, pushed.1)
    (board_from_parts c.args.labels c.args.pebbles c.args.start.now c.args.pairs.now (omega arith, omega arith)
    (omega arith, omega arith) (c.is_start.ensures.0 c.if-not-is_start.false) pushed.0)

pub returns-clause-found : goal.returns-clause-found
returns-clause-found c =
    let labels : c.push_pairs.new.beats.labels ≡ c.args.labels =
    c.push_pairs.ensures.labels ∙ c.in_ok-beats.ensures.0 in
    let pushed = c.in_ok-push_pairs.ensures.pushed in
    (invariant_of-result c, rw (labels, c.copy_from_slice.ensures.items, pushed.1) refl)
