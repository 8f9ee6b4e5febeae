use Rattle.std.proofs.Common.{[], arith}
use Rattle.std.proofs.lemmas.List.{get_or_read}
use Rattle.gap_values.proofs.UnclosedLabels.{unclosed-labels, unclosed-none}
use Rattle.gap_values.proofs.gap_sizes.unclosed.Goals as goal

pub returns-then-word-bound-clause-labels : goal.returns-then-word-bound-clause-labels
returns-then-word-bound-clause-labels g c = λ b words some family tell few word_is x x_low.
    unclosed-none b words c.args.sets.now c.args.family.now c.args.least c.args.word c.args.bound some family
    c.requires.least tell few word_is c.below.result c.if-word-bound.true c.below.ensures c.args.upto.now x x_low

pub returns-clause-labels : goal.returns-clause-labels
returns-clause-labels g c = λ b words some family tell few word_is x x_low.
    unclosed-labels b words c.args.sets.now c.args.family.now c.args.least c.args.word c.args.bound some family
    c.requires.least tell few word_is c.args.upto.now c.index-sets-family.result c.without-common.result
    c.left_of.result
    c.if-word-bound.false c.without-common.ensures
    (get_or_read c.args.sets.now c.args.family.now.number c.index-sets-family.result
    (let many = tell.many in let inside = family.inside in omega (arith, many, inside)) c.index-sets-family.is [])
    c.left_of.ensures x x_low
