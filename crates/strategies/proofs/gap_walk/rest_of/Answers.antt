use Rattle.std.proofs.Common.{◌≡◌, ◌+◌, ◌-◌, ◌<◌, length, take, ap, sym, ◌∙◌, subst, arith}
use Rattle.std.specs.List.{remove}
use Rattle.board_text.specs.PlainBoard.{places}
use Rattle.classes.specs.Classes.{class_of}
use Rattle.classes.specs.Numbers.{number_by_greatest, ways}
use Rattle.classes.proofs.Cited.{is-below}
use Rattle.strategies.proofs.SiblingRanks.{rest-all, rest-class, rest-push, whole-class}
use Rattle.strategies.proofs.gap_walk.rest_of.Goals as goal

pub member-requires-clause-class : goal.member-requires-clause-class
member-requires-clause-class c =
    let board = c.args.members.now in
    let held = c.args.held.now in
    let size = c.args.size in
    let pebble = c.args.pebble in
    let inside : size < length held = omega (arith, c.requires.size) in
    subst (λ n. n < ways (size - 1) (places board))
    (sym (c.requires.rests.rows size (omega arith) pebble (omega (arith, c.if-pebble-size.true))))
    (is-below (places board) (size - 1) (class_of (remove (take size held) pebble))
    (rest-class board held c.requires.held size inside pebble c.if-pebble-size.true))

pub returns-then-pebble-size : goal.returns-then-pebble-size
returns-then-pebble-size c =
    let board = c.args.members.now in
    let held = c.args.held.now in
    let size = c.args.size in
    let pebble = c.args.pebble in
    let inside : size < length held = omega (arith, c.requires.size) in
    c.member.ensures (class_of (remove (take size held) pebble))
    (rest-class board held c.requires.held size inside pebble c.if-pebble-size.true)
    (c.requires.rests.rows size (omega arith) pebble (omega (arith, c.if-pebble-size.true)))
    ∙ ap number_by_greatest (sym (rest-push held size inside pebble c.if-pebble-size.true))

pub member-requires-2-clause-class : goal.member-requires-2-clause-class
member-requires-2-clause-class c =
    let board = c.args.members.now in
    let held = c.args.held.now in
    let size = c.args.size in
    let inside : size < length held = omega (arith, c.requires.size) in
    subst (λ n. n < ways size (places board)) (sym (c.requires.rests.rows size (omega arith) size (omega arith)))
    (is-below (places board) size (class_of (remove (take size held) size))
    (whole-class board held c.requires.held size inside))

pub returns : goal.returns
returns c =
    let board = c.args.members.now in
    let held = c.args.held.now in
    let size = c.args.size in
    let inside : size < length held = omega (arith, c.requires.size) in
    let after : size + 1 ≡ c.args.pebble =
    omega (arith, c.requires.pebble, c.if-pebble-size.false, c.if-pebble-size-2.false) in
    c.member-2.ensures (class_of (remove (take size held) size)) (whole-class board held c.requires.held size inside)
    (c.requires.rests.rows size (omega arith) size (omega arith))
    ∙ ap number_by_greatest (sym (rest-all held size inside))
    ∙ ap (λ n. number_by_greatest (class_of (remove (take (size + 1) held) n))) after
