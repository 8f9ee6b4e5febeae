use Rattle.std.proofs.Common.{refl}
use Rattle.positions.proofs.Cited.{moved_is_configuration}
use Rattle.player.proofs.RequestLines.{reply_said, no_reply_said}
use Rattle.player.proofs.adversary_side.AdversarySide.request.Goals as goal

pub returns-in_ok-write_reply-in-Some-clause-said : goal.returns-in_ok-write_reply-in-Some-clause-said
returns-in_ok-write_reply-in-Some-clause-said g c =
    reply_said _ _ c.self.view_is _ c.args.pebble c.in-Some.label c.with-self-inside.result _ _ _ c.board-board.ensures
    (rw c.as_slice.ensures.value at c.in-Some.ensures.best) c.with-self-inside.ensures
    c.as_slice-in-Some.ensures.value c.in_ok-write_reply-in-Some.ensures

pub returns-in_ok-write_stuck-in-None-clause-said : goal.returns-in_ok-write_stuck-in-None-clause-said
returns-in_ok-write_stuck-in-None-clause-said g c =
    let none = rw c.as_slice.ensures.value at c.in-None.ensures.none in
    no_reply_said _ _ c.self.view_is c.args.pebble _ _ (none.0 refl) c.in_ok-write_stuck-in-None.ensures

pub invariant_of-self : goal.invariant_of-self
invariant_of-self g c =
    let best = rw c.as_slice.ensures.value at c.in-Some.ensures.best in
    rw c.with-self-inside.ensures
    (moved_is_configuration c.self.inside.moves.now c.self.inside.configuration c.args.pebble
    c.in-Some.label
    best.0.legal.is_label c.self.invariant)

pub invariant_of-self-in-Some : goal.invariant_of-self-in-Some
invariant_of-self-in-Some g c =
    let best = rw c.as_slice.ensures.value at c.in-Some.ensures.best in
    rw c.with-self-inside.ensures
    (moved_is_configuration c.self.inside.moves.now c.self.inside.configuration c.args.pebble
    c.in-Some.label
    best.0.legal.is_label c.self.invariant)
