use Rattle.std.proofs.Common.{◌≡◌, ◌/◌, ◌%◌, ◌≤◌, ◌==◌, length, map, take}
use Rattle.std.specs.List.{filter}
use Rattle.nested_cycles.proofs.copies.rests_of.Given as goal

abbrev pub invariant-loop-word : goal.invariant-loop-word
invariant-loop-word l = record {
  so_far : l.rests ≡ map (λ word. word % l.size)
      (filter (λ word. word / l.size == l.digit) (take l.word-index l.words));
  room : length l.rests ≤ l.word-index;
}
