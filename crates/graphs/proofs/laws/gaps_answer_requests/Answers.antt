use Rattle.graphs.proofs.ConfigurationNumbers.{gap-in-below, gap-in-own, gap-in-moved, gap-in-legal}
use Rattle.graphs.proofs.laws.gaps_answer_requests.Goals as goal

pub returns-clause-below : goal.returns-clause-below
returns-clause-below c = λ n configuration pebble is ok low. gap-in-below n is configuration pebble ok low

pub returns-clause-own : goal.returns-clause-own
returns-clause-own c = λ n configuration pebble is ok low. gap-in-own n is configuration pebble ok low

pub returns-clause-moved : goal.returns-clause-moved
returns-clause-moved c = λ n configuration pebble label is ok low. gap-in-moved n is configuration pebble ok low label

pub returns-clause-legal : goal.returns-clause-legal
returns-clause-legal c = λ n configuration pebble label is ok low. gap-in-legal n is configuration pebble ok low label
