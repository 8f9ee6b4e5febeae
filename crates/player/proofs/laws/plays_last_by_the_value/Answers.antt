use Rattle.player.proofs.PlayLengths.{no_sooner, no_later, within, only_stops}
use Rattle.player.proofs.laws.plays_last_by_the_value.Goals as goal

pub returns-clause-asking : goal.returns-clause-asking
returns-clause-asking c = no_sooner

pub returns-clause-answering : goal.returns-clause-answering
returns-clause-answering c = no_later

pub returns-clause-going : goal.returns-clause-going
returns-clause-going c = within

pub returns-clause-climbing : goal.returns-clause-climbing
returns-clause-climbing c = only_stops
