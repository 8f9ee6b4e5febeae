use Rattle.std.proofs.Common.{◌≡◌, ◌++◌, length}
use Rattle.std.specs.List.{flat_map}
use Rattle.std.specs.Vec.Iter.{into_iter_items, into_iter_len}
use Rattle.strategies.proofs.text.add_section.Given as goal

abbrev pub invariant-loop-part : goal.invariant-loop-part
invariant-loop-part l = record {
  parts : flat_map (λ part. part.items) l.parts.items
      ≡ flat_map (λ part. part.items) l.initial.parts.items ++ flat_map (λ part. part.bytes.items) l.yielded;
  all : l.yielded ++ into_iter_items l.part-iterator ≡ into_iter_items l.initial.part-iterator;
  left : into_iter_len l.part-iterator ≡ length (into_iter_items l.part-iterator);
}
