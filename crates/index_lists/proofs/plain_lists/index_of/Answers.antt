use Rattle.index_lists.proofs.Places.{get-inside}
use Rattle.index_lists.proofs.plain_lists.index_of.Goals as goal

pub returns : goal.returns
returns c = get-inside c.args.node c.args.nodes.now c.loop-index.index c.loop-index.invariant c.loop-index-test.false
