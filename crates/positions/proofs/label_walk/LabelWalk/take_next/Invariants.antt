use Rattle.std.proofs.Common.{◌≡◌, ◌-◌, ◌<◌, ◌^◌, slice_set}
use Rattle.positions.specs.LabelWalk.{Walk}
use Rattle.positions.specs.Inside.LabelWalk.{IsAtWord}
use Rattle.positions.proofs.label_walk.LabelWalk.take_next.Given as goal

abbrev pub invariant-loop-self : goal.invariant-loop-self
invariant-loop-self l = record {
  same : ◌≡◌ {A = Walk} (record {
    left = slice_set l.self-inside.words l.self-inside.number l.self-inside.word;
    from = l.self-inside.from;
  }) l.fn.self;
  come : IsAtWord l.self-inside.words l.self-inside.number l.self-inside.word l.self-inside.later;
  fits : l.self-inside.word < 2 ^ 64;
}

abbrev pub decreases-loop-self : goal.decreases-loop-self
decreases-loop-self l = 4 - l.self-inside.number
