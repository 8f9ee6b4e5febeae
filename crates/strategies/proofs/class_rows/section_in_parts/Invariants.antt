use Rattle.std.proofs.Common.{◌≡◌, take}
use Rattle.std.specs.List.{flat_map}
use Rattle.strategies.proofs.class_rows.section_in_parts.Given as goal

abbrev pub invariant-loop-part : goal.invariant-loop-part
invariant-loop-part g l = l.rows.items ≡ flat_map (λ part. part.items) (take l.part-index l.part-items)
