use Rattle.solver.proofs.Tallies.{live-tally, to-win-is}
use Rattle.solver.proofs.laws.seats_strike_graphs.Goals as goal

pub returns-clause-waiting : goal.returns-clause-waiting
returns-clause-waiting c = λ graph is gap todo i inside once. live-tally graph is gap todo i inside once

pub returns-clause-next : goal.returns-clause-next
returns-clause-next c = λ graph is round x i. to-win-is graph is round x i
