use Rattle.std.proofs.Common.{◌≡◌, ◌+◌, ◌-◌, ◌*◌, ◌/◌, ◌^◌, set, subst, arith}
use Rattle.positions.proofs.LabelBits.{HasBelow, below_none, below_word, below_rest}
use Rattle.positions.proofs.label_set.Labels.below.Goals as goal
use Rattle.positions.proofs.label_set.Labels.below.Goals.{then-labels-gt0, else-labels-gt0}

pub loop-number-init : goal.loop-number-init
loop-number-init g c = below_none g.row.WORDS

pub loop-number-preserved : goal.loop-number-preserved
loop-number-preserved g c =
    let l = c.loop-number in
    let next : 64 * l.number + 64 ≡ 64 * (l.number + 1) = omega arith in
    subst (HasBelow g.row.WORDS (set l.words l.number (2 ^ 64 - 1))) next
    (below_word g.row.WORDS l.words l.number 64 (omega (arith, c.loop-number-test.true, c.requires)) (omega arith)
    l.invariant)

pub returns : goal.returns
returns g c =
    let labels = c.args.labels in
    let l = c.loop-number in
    let last : l.number ≡ labels / 64 = omega (arith, c.loop-number-test.false, l.auto.number-end) in
    let has : HasBelow g.row.WORDS l.words (64 * (labels / 64)) =
    subst (λ n. HasBelow g.row.WORDS l.words (64 * n)) last l.invariant in
    elim c.if-labels-gt0.branch [
      | then-labels-gt0 w ↦
          rw w.words-is (below_rest g.row.WORDS l.words labels c.requires w.if-labels-gt0.true has).each
      | else-labels-gt0 w ↦
          let whole : 64 * (labels / 64) ≡ labels = omega (arith, w.if-labels-gt0.false) in
          rw w.words-is (subst (HasBelow g.row.WORDS l.words) whole has).each
    ]
