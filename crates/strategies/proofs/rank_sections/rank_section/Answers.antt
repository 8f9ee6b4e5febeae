use Rattle.std.proofs.Common.{refl}
use Rattle.strategies.proofs.SetRooms.{marks_have_room}
use Rattle.strategies.proofs.rank_sections.rank_section.Goals as goal

pub section-requires-clause-kind : goal.section-requires-clause-kind
section-requires-clause-kind g c = rw c.at-here.ensures
    (g.met.R.LineRow.ranked _ (record { ranks = refl; few = c.space.ensures.few }))

pub section-requires-clause-room : goal.section-requires-clause-room
section-requires-clause-room g c =
    rw (c.at-here.ensures, c.in_ok-set.ensures, c.in_ok-expanded.ensures)
    (marks_have_room c.args.moves.now c.configurations.result c.gaps.result
    (rw c.space.ensures.value at c.configurations.ensures.value) (rw c.space-2.ensures.value at c.gaps.ensures.value))
