use Rattle.std.proofs.Common.{ℕ, List}
use Rattle.console.specs.Showing.{HasNoControl, IsMore}
use Rattle.explanations.proofs.note_lines.write_parts.Given as goal

abbrev pub invariant-loop-part : goal.invariant-loop-part
invariant-loop-part g l = (text : List ℕ) × HasNoControl text
    × IsMore g.E.Sink.contents g.E.Sink.has_failed l.fn.errors l.errors text
