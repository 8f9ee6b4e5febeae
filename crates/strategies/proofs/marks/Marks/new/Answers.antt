use Rattle.strategies.proofs.BitMarks.{none_marked}
use Rattle.strategies.proofs.marks.Marks.new.Goals as goal

pub returns : goal.returns
returns c =
    rw (c.in_ok-words.ensures.items_if_clones_equal (λ y same. same)) (none_marked c.args.size c.div_ceil.result)
