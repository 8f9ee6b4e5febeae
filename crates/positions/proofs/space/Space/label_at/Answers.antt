use Rattle.std.proofs.Common.{◌≡◌, ◌∙◌, sym, get_or}
use Rattle.positions.proofs.SpaceNumbers.{numbers}
use Rattle.positions.proofs.RankTurns.{held_is}
use Rattle.positions.proofs.space.Space.label_at.Goals as goal

pub returns-clause-label : goal.returns-clause-label
returns-clause-label c =
    let s = c.self.inside in
    let are = numbers c.args.self.now s c.self.view_is c.self.invariant in
    let weight : c.weight.result ≡ get_or s.weights c.args.pebble 0 =
    c.weight.ensures.value ∙ sym (are.weighs c.args.pebble c.requires.pebble) in
    rw c.rest.ensures (rw c.quotient-whole.ensures
    (rw weight (held_is c.args.self.now s.places s.weights c.args.rank c.args.pebble are c.requires.rank
    c.requires.pebble)))
