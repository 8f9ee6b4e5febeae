use Rattle.std.proofs.Common.{◌≡◌, ◌++◌, drop, take}
use Rattle.console.specs.Showing.{shown}
use Rattle.console.proofs.showing.around_control.Given as goal

abbrev pub invariant-loop-at : goal.invariant-loop-at
invariant-loop-at l = shown l.bytes ≡ take l.at l.bytes ++ shown (drop l.at l.bytes)
