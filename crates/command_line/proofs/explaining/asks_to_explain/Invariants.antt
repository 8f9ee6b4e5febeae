use Rattle.std.proofs.Common.{◌≡◌, drop}
use Rattle.clap.specs.Walk.{texts}
use Rattle.command_line.specs.Explaining.{asks_to_explain, has_explain}
use Rattle.command_line.proofs.explaining.asks_to_explain.Given as goal

abbrev pub invariant-loop-at : goal.invariant-loop-at
invariant-loop-at l =
    has_explain (texts (drop l.at l.words)) ≡ asks_to_explain (texts l.words)
