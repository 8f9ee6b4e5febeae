use Rattle.std.proofs.Common.{◌-◌, ◌^◌, ◌<◌, ◌↔◌}
use Rattle.nested_cycles.specs.Words.{word_of}
use Rattle.nested_cycles.specs.Domination.{WordDominates, NestedDominates}
use Rattle.nested_cycles.proofs.domination.nested_beats.Given as goal

-- The digits not yet compared decide.
abbrev pub invariant-loop : goal.invariant-loop
invariant-loop l = record {
  small_a : l.a < 3 ^ (l.levels - l.counter);
  small_b : l.b < 3 ^ (l.levels - l.counter);
  decided : WordDominates (word_of (l.levels - l.counter) l.a) (word_of (l.levels - l.counter) l.b)
      ↔ NestedDominates l.levels l.fn.a l.fn.b;
}
