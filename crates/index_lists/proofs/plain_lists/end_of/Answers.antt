use Rattle.std.proofs.Common.{◌+◌, arith}
use Rattle.index_lists.proofs.Parts.{rest-sum, rest-le}
use Rattle.index_lists.proofs.plain_lists.end_of.Goals as goal

pub total-requires : goal.total-requires
total-requires c =
    let lens = c.args.lens.now in
    let rest = rest-sum lens (c.args.of + 1) in
    let le = rest-le lens (c.args.of + 1) in
    omega (arith, rest, le, c.requires.whole, c.requires.few)

pub overflow_sub-result : goal.overflow_sub-result
overflow_sub-result c =
    let lens = c.args.lens.now in
    let rest = rest-sum lens (c.args.of + 1) in
    let le = rest-le lens (c.args.of + 1) in
    omega (arith, rest, le, c.requires.whole, c.total.ensures)

pub returns : goal.returns
returns c =
    let lens = c.args.lens.now in
    let rest = rest-sum lens (c.args.of + 1) in
    let le = rest-le lens (c.args.of + 1) in
    omega (arith, rest, le, c.requires.whole, c.total.ensures)
