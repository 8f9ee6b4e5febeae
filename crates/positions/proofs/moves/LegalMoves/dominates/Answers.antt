use Rattle.positions.proofs.PlaceMoves.{few_pebbles, dominator_is}
use Rattle.positions.proofs.moves.LegalMoves.dominates.Goals as goal

pub bounds-self-inside-pebble : goal.bounds-self-inside-pebble
bounds-self-inside-pebble c =
    let s = c.self.inside in
    few_pebbles c.args.self.now s.board.now s.space.now s.rank s.places c.self.view_is c.self.invariant c.args.pebble
    c.requires

pub returns : goal.returns
returns c =
    let s = c.self.inside in
    let same = dominator_is c.args.self.now s.board.now s.space.now s.rank s.places c.self.view_is c.self.invariant
    c.args.pebble c.requires in
    (λ told. same.0 (c.is_legal.ensures.0 told), λ is. c.is_legal.ensures.1 (same.1 is))
