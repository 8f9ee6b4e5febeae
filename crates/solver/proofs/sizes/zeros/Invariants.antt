use Rattle.std.proofs.Common.{◌≡◌, ◌≤◌, length, vec_capacity}
use Rattle.solver.specs.Inside.Values.{AreZeros}
use Rattle.solver.proofs.sizes.zeros.Given as goal

abbrev pub invariant-loop : goal.invariant-loop
invariant-loop l = record {
  size : length l.sizes.items ≡ l.counter;
  room : l.count ≤ vec_capacity l.sizes;
  zeros : AreZeros l.sizes.items;
}
