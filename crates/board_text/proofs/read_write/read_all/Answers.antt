use Rattle.std.proofs.Common.{◌≡◌, ◌+◌, take, length-take-le, arith, rules}
use Rattle.std.proofs.lemmas.List.{with_items_is, places}
use Rattle.board_text.proofs.StreamMoves.{filled_on}
use Rattle.board_text.proofs.read_write.read_all.Goals as goal

pub loop-filled-preserved : goal.loop-filled-preserved
loop-filled-preserved g c =
    let i = c.loop-filled.invariant in
    let same = with_items_is c.make_room.new.bytes c.read_at.new.bytes (search (rules, places)) in
    rw same (record {
      filled = c.in-Ok.ensures.fits;
      room = search (rules, places);
      given = filled_on _ _ _ c.loop-filled.bytes.items c.make_room.new.bytes.items c.read_at.new.bytes
          c.loop-filled.filled c.in-Ok.count
          c.make_room.ensures.front
          (rw c.as_mut_slice.ensures.value at c.in-Ok.ensures.front) i.given c.in-Ok.ensures.given;
      unfailed = search rules;
      unended = c.in-Ok.ensures.ended.1 (omega (arith, c.in-Ok.count-test.1));
    })

pub returns-in-Ok-eq0-clause-ok : goal.returns-in-Ok-eq0-clause-ok
returns-in-Ok-eq0-clause-ok g c =
    let i = c.loop-filled.invariant in
    let none = c.in-Ok-eq0.field-0-test in
    let same = with_items_is c.make_room.new.bytes c.read_at.new.bytes (search (rules, places)) in
    let given = filled_on _ _ _ c.loop-filled.bytes.items c.make_room.new.bytes.items c.read_at.new.bytes
    c.loop-filled.filled c.in-Ok-eq0.field-0
    c.make_room.ensures.front
    (rw c.as_mut_slice.ensures.value at c.in-Ok-eq0.ensures.front) i.given c.in-Ok-eq0.ensures.given in
    let whole : c.loop-filled.filled + c.in-Ok-eq0.field-0 ≡ c.loop-filled.filled = omega (arith, none) in
    (rw (rw same at c.truncate.ensures.items) (rw whole at given), c.in-Ok-eq0.ensures.end none)

pub returns-clause-fault : goal.returns-clause-fault
returns-clause-fault g c =
    let i = c.loop-filled.invariant in (
      i.unfailed,
      (
        take c.loop-filled.filled c.loop-filled.bytes.items,
        omega (arith, length-take-le c.loop-filled.filled c.loop-filled.bytes.items i.filled, c.loop-filled-test.false),
        i.given,
      ),
    )
