use Rattle.std.proofs.Common.{rules}
use Rattle.nested_cycles.proofs.NestedGames.{start_is_good}
use Rattle.nested_cycles.proofs.game.NestedGame.new.Goals as goal

pub invariant_of-result : goal.invariant_of-result
invariant_of-result c = start_is_good c.args.levels c.in_ok-words.words.items c.requires (search rules)
