use Rattle.std.proofs.Common.{◌^◌, ◌<◌, bit_and, get_or, refl, arith, rules}
use Rattle.positions.proofs.LabelBits.{none_more, none_passed, search_some}
use Rattle.positions.proofs.label_set.LabelSet.first_from.Goals as goal
use Rattle.positions.proofs.label_set.LabelSet.first_from.Goals.{then-bound-number+else-word-ne0, else-bound-number}

pub returns-then-word-ne0 : goal.returns-then-word-ne0
returns-then-word-ne0 c =
    let words = c.self.inside.words in
    let l = c.loop-number in
    let some : 0 < bit_and (get_or words l.number 0) c.bits_from.result = omega arith in
    let fits : bit_and (get_or words l.number 0) c.bits_from.result < 2 ^ 64 = search rules in
    rw (← c.self.view_is)
    (search_some words c.args.bound l.number c.bits_from.result _ c.loop-number-test.true some fits c.bits_from.ensures
    l.invariant refl)

pub loop-number-preserved : goal.loop-number-preserved
loop-number-preserved c =
    let words = c.self.inside.words in
    let l = c.loop-number in
    elim c.if-bound-number.branch [
      | then-bound-number+else-word-ne0 w ↦
          none_more words c.args.bound l.number w.bits_from.result w.bits_from.ensures w.if-word-ne0.false l.invariant
      | else-bound-number w ↦ none_passed words c.args.bound l.number w.if-bound-number.false
    ]
