use Rattle.std.proofs.Common.{◌≡◌, ◌++◌, take}
use Rattle.std.specs.List.{flat_map}
use Rattle.proof_text.proofs.parts.PartedSections.write.Given as goal

abbrev pub invariant-loop-lines : goal.invariant-loop-lines
invariant-loop-lines g l =
    l.text.bytes ≡ l.initial.text.bytes ++ flat_map (λ lines. lines.bytes) (take l.lines-index l.lines-items)
