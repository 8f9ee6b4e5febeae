use Rattle.std.proofs.Common.{◌<◌, ◌∙◌, sym, subst}
use Rattle.positions.proofs.SpaceNumbers.{numbers}
use Rattle.positions.proofs.RankTurns.{weight_positive, read_weight}
use Rattle.positions.proofs.GapTurns.{first_weight}
use Rattle.positions.proofs.space.Space.tuples.Goals as goal

pub returns-clause-value : goal.returns-clause-value
returns-clause-value c =
    let are = numbers c.args.self.now c.self.inside c.self.view_is c.self.invariant in
    read_weight c.args.self.now _ _ 0 c.index-self-0.result are c.self.told are.is_board.pebbles.0
    ∙ first_weight c.args.self.now _ _ are

pub returns-clause-some : goal.returns-clause-some
returns-clause-some c =
    let are = numbers c.args.self.now c.self.inside c.self.view_is c.self.invariant in
    subst (λ n. 0 < n)
    (sym (read_weight c.args.self.now _ _ 0 c.index-self-0.result are c.self.told are.is_board.pebbles.0))
    (weight_positive c.args.self.now _ _ 0 are are.is_board.pebbles.0)
