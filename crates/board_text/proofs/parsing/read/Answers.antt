use Rattle.std.proofs.Common.{◌≡◌, ◌+◌, ◌∙◌, [], length, arith, refl}
use Rattle.std.proofs.lemmas.Bool.{both_ways}
use Rattle.std.proofs.lemmas.Result.{err_from_is_err_and}
use Rattle.board_text.proofs.Faults.{head_taken, front_taken, FrontRead, text_read, has_pair_fault, has_trailing}
use Rattle.board_text.proofs.Faults.{is_found, start_kept}
use Rattle.board_text.specs.PlainBoard.{plain_board}
use Rattle.board_text.proofs.Places.{board_from_parts}
use Rattle.board_text.proofs.parsing.read.Goals as goal
use Rattle.board_text.proofs.parsing.read.Goals.{In-Some}

-- the first four lines
front : (c : In-Some)
    → FrontRead c.in_ok-version.labels c.in_ok-version.pebbles c.take_start.new.start c.args.bytes.now
    c.take_start.new.text
front c =
    let h = rw c.new-text.ensures at c.in_ok-version.ensures in
    let room : length c.deref_mut.result.now ≡ c.in_ok-version.pebbles =
    omega (arith, c.deref_mut.ensures.len, c.in_ok-start.ensures.len, c.from.ensures) in
    let s = rw room at c.in-Some.ensures in
    record {
      is_board = λ pairs are. board_from_parts _ _ _ pairs h.1 h.2 s.0.0 are;
      taken = head_taken _ _ _ _ c.args.bytes.now c.read_head.new.text c.take_start.new.text s.0.1 h.3 s.1;
    }

pub returns-in_err-version-clause-fault : goal.returns-in_err-version-clause-fault
returns-in_err-version-clause-fault c =
    let p = err_from_is_err_and c.from_residual.result c.from_residual.ensures.1 in
    rw (p.1, p.2) (rw c.new-text.ensures at c.in_err-version.ensures)

pub returns-in_default-clause-fault : goal.returns-in_default-clause-fault
returns-in_default-clause-fault c =
    let h = rw c.new-text.ensures at c.in_ok-version.ensures in
    let room : length c.deref_mut.result.now ≡ c.in_ok-version.pebbles =
    omega (arith, c.deref_mut.ensures.len, c.in_ok-start.ensures.len, c.from.ensures) in
    rw c.at.ensures (refl, _, _, _, _, h.0, h.1, h.2, h.3, rw room at c.in_default.ensures)

pub returns-in_err-last-clause-fault : goal.returns-in_err-last-clause-fault
returns-in_err-last-clause-fault c =
    let p = err_from_is_err_and c.from_residual-in_err-last.result c.from_residual-in_err-last.ensures.1 in
    let four = front (goal.at.returns-in_err-last-clause-fault c).In-Some in
    let f = rw c.in_ok-beats.ensures.0 at c.in_err-last.ensures.fault in
    let b = plain_board c.in_ok-version.labels c.in_ok-version.pebbles c.take_start.new.start f.0 in
    rw (p.1, p.2) (has_pair_fault _ _ c.in_err-last.field-0.0.kind b f.1 (four.is_board f.0 f.2)
    (front_taken b _ c.take_start.new.text f.1 four.taken f.3) f.4 f.5)

pub returns-then-not-is_empty-clause-fault : goal.returns-then-not-is_empty-clause-fault
returns-then-not-is_empty-clause-fault c =
    let f = rw c.in_ok-beats.ensures.0 at c.in_ok-last.ensures.read in
    let read = text_read
    (front (goal.at.returns-then-not-is_empty-clause-fault c).In-Some) _ c.read_pairs.new.text f.0 f.1 in
    rw c.at-then-not-is_empty.ensures (has_trailing _ _ (c.in_ok-last.last + 1) _ read.0 read.1
    (λ e. both_ways c.is_empty.result c.if-not-is_empty.true (c.is_empty.ensures.1 e)) (omega (arith, f.2)))

pub returns-clause-found : goal.returns-clause-found
returns-clause-found c =
    let f = rw c.in_ok-beats.ensures.0 at c.in_ok-last.ensures.read in
    let all : c.read_pairs.new.text ≡ [] = c.is_empty.ensures.0 c.if-not-is_empty.false in
    let read = rw all at (text_read (front (goal.at.returns-clause-found c).In-Some) _ c.read_pairs.new.text f.0 f.1) in
    is_found _ c.read_pairs.new.beats.labels _ c.args.bytes.now (c.read_pairs.ensures.labels ∙ c.in_ok-beats.ensures.0)
    (start_kept c.in_ok-start.start.len c.in_ok-start.start.items c.take_start.new.start
    (omega (arith, read.0.start.each_pebble, c.in_ok-start.ensures.len, c.from.ensures))) read

pub returns-in_err-beats-clause-fault : goal.returns-in_err-beats-clause-fault
returns-in_err-beats-clause-fault c =
    let p = err_from_is_err_and c.from_residual-in_err-beats.result c.from_residual-in_err-beats.ensures.1 in
    let h = rw c.new-text.ensures at c.in_ok-version.ensures in
    rw (p.1, p.2) (refl, _, _, _, _, h.0, h.1, h.2, h.3)

pub returns-in_err-start-clause-fault : goal.returns-in_err-start-clause-fault
returns-in_err-start-clause-fault c =
    let p = err_from_is_err_and c.from_residual-in_err-start.result c.from_residual-in_err-start.ensures.1 in
    let h = rw c.new-text.ensures at c.in_ok-version.ensures in
    rw (p.1, p.2) (refl, _, _, _, _, h.0, h.1, h.2, h.3)

pub invariant_of-result : goal.invariant_of-result
invariant_of-result c = (returns-clause-found c).0
