use Rattle.std.proofs.Common.{None, sym, subst, arith, rules}
use Rattle.std.proofs.lemmas.List.{get_or_read}
use Rattle.strategies.specs.Inside.RankMoves.{IsBestOfNumber, class_of_gap}
use Rattle.strategies.proofs.rank_moves.RankMoves.best_of_gap.Goals as goal

pub index-requires : goal.index-requires
index-requires c =
    let best = rw c.self.view_is at c.self.invariant.best in
    search (rules, best.one_each)

pub returns : goal.returns
returns c =
    let best = rw c.self.view_is at c.self.invariant.best in
    subst (IsBestOfNumber class_of_gap c.args.self.now c.args.number)
    (sym (get_or_read c.self.inside.best.items c.args.number c.index.result.now
    (omega (arith, c.requires, best.one_each)) c.index.ensures None))
    (best.best c.args.number c.requires)
