use Rattle.std.proofs.Common.{◌≡◌, ◌++◌, List, ℕ, length}
use Rattle.console.specs.Showing.{IsMore, shown}
use Rattle.console.proofs.showing.write_shown.Given as goal

abbrev pub invariant-loop-plain : goal.invariant-loop-plain
invariant-loop-plain g l = (done : List ℕ)
    × IsMore g.E.Sink.contents g.E.Sink.has_failed l.fn.errors l.errors done
    × (shown l.fn.text ≡ done ++ shown l.rest)

abbrev pub decreases-loop-plain : goal.decreases-loop-plain
decreases-loop-plain g l = length l.rest
