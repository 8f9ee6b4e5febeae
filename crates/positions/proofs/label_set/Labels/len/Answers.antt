use Rattle.std.proofs.Common.{◌+◌, ◌*◌, ◌^◌, ◌<◌, get_or, sym, arith, rules}
use Rattle.std.specs.Int.Count.{ones}
use Rattle.board_text.specs.Domination.{has_bit}
use Rattle.positions.proofs.CountsBelow.{count_below-zero}
use Rattle.positions.proofs.LabelBits.{bits_more, bits_few, size_of_bits}
use Rattle.positions.proofs.label_set.Labels.len.Goals as goal

pub loop-word-init : goal.loop-word-init
loop-word-init g c = sym (count_below-zero (has_bit c.args.self.now))

pub overflow_add-count : goal.overflow_add-count
overflow_add-count g c =
    let words = c.self.inside.words in
    let l = c.loop-word in
    let is = rw (← c.self.view_is) at l.invariant in
    let small : get_or words l.word-index 0 < 2 ^ 64 = search rules in
    let few = bits_few words (64 * (l.word-index + 1)) (l.count + ones (get_or words l.word-index 0))
    (bits_more words l.word-index l.count small is) in
    omega (arith, few)

pub loop-word-preserved : goal.loop-word-preserved
loop-word-preserved g c =
    let words = c.self.inside.words in
    let l = c.loop-word in
    let is = rw (← c.self.view_is) at l.invariant in
    let small : get_or words l.word-index 0 < 2 ^ 64 = search rules in
    rw (← c.self.view_is) (bits_more words l.word-index l.count small is)

pub returns : goal.returns
returns g c =
    let l = c.loop-word in
    let is = rw (← c.self.view_is) at l.invariant in
    rw (← c.self.view_is) (size_of_bits c.self.inside.words (64 * l.word-index) l.count
    (omega (arith, c.self.told, l.auto.word-index-end, c.loop-word-test.false)) (omega (arith, c.self.told, c.requires))
    is)
