use Rattle.domains.proofs.NeededCycles.{exactly_on_cycles, on_a_cycle}
use Rattle.domains.proofs.TwoPebbles.{beaten_last}
use Rattle.domains.proofs.laws_of_starts.two_pebbles_last_on_cycles.Goals as goal

pub returns : goal.returns
returns c = record {
  last = λ board labels configuration beaten two long all depth.
      beaten_last board labels depth configuration beaten two long all;
  only = on_a_cycle;
  exactly = exactly_on_cycles;
}
