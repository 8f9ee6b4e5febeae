use Rattle.retro_core.proofs.RoundSteps.{opening-lawful}
use Rattle.retro_core.proofs.laws_of_rounds.rounds_open_lawfully.Goals as goal

pub returns : goal.returns
returns c = λ s sol width some counts values ranks counts_length values_length first_counts first_values to_strike.
    opening-lawful s sol width counts values ranks some counts_length values_length first_counts first_values to_strike
