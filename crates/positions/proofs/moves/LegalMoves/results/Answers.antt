use Rattle.std.proofs.Common.{◌∙◌, arith}
use Rattle.positions.proofs.PlaceMoves.{few_pebbles, line}
use Rattle.positions.proofs.moves.LegalMoves.results.Goals as goal

pub bounds-self-inside-pebble : goal.bounds-self-inside-pebble
bounds-self-inside-pebble c =
    let s = c.self.inside in
    few_pebbles c.args.self.now s.board.now s.space.now s.rank s.places c.self.view_is c.self.invariant c.args.pebble
    c.requires

pub overflow_mul-first : goal.overflow_mul-first
overflow_mul-first c =
    let s = c.self.inside in
    let is = line c.args.self.now s.board.now s.space.now s.rank s.places c.self.view_is c.self.invariant c.args.pebble
    c.value-step.result c.requires (c.value-step.ensures.value ∙ c.weight.ensures.value) in
    let low = is.held_below in
    omega (arith, low)

pub overflow_sub-first : goal.overflow_sub-first
overflow_sub-first c =
    let s = c.self.inside in
    (line c.args.self.now s.board.now s.space.now s.rank s.places c.self.view_is c.self.invariant c.args.pebble
    c.value-step.result c.requires (c.value-step.ensures.value ∙ c.weight.ensures.value)).held_below

pub returns-clause-ranks : goal.returns-clause-ranks
returns-clause-ranks c =
    let s = c.self.inside in
    (line c.args.self.now s.board.now s.space.now s.rank s.places c.self.view_is c.self.invariant c.args.pebble
    c.value-step.result c.requires (c.value-step.ensures.value ∙ c.weight.ensures.value)).ranks

pub returns-clause-below : goal.returns-clause-below
returns-clause-below c =
    let s = c.self.inside in
    (line c.args.self.now s.board.now s.space.now s.rank s.places c.self.view_is c.self.invariant c.args.pebble
    c.value-step.result c.requires (c.value-step.ensures.value ∙ c.weight.ensures.value)).below

pub returns-clause-few : goal.returns-clause-few
returns-clause-few c = rw (← c.self.view_is) (rw c.self.invariant.same_board at c.weight.ensures.few)
