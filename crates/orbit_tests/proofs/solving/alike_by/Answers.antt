use Rattle.proof_check.proofs.Cited.{symmetries_held, symmetries_keep}
use Rattle.orbit_tests.proofs.solving.alike_by.Goals as goal

pub group_of-requires : goal.group_of-requires
group_of-requires c = symmetries_held c.args.board.now c.args.maps.now c.in_default.ensures

pub by-requires-clause-keeps : goal.by-requires-clause-keeps
by-requires-clause-keeps c =
    symmetries_keep c.args.board.now c.in-Some-made.group.keys (rw c.in-Some-made.is at c.in_ok-made.ensures.symmetries)
