use Rattle.std.proofs.Common.{string_bytes, ◌∙◌, sym}
use Rattle.board_text.specs.Inside.Domination.{mark_of}
use Rattle.board_text.proofs.PairLines.{lines-zero, lines-marked, lines-unmarked}
use Rattle.board_text.proofs.domination.write_pairs.Goals as goal
use Rattle.board_text.proofs.domination.write_pairs.Goals.{then-has_pair+in_ok-writeln, else-has_pair}

pub loop-number-init : goal.loop-number-init
loop-number-init c =
    lines-zero c.from-labels.result (mark_of c.from-labels.result c.args.rows.now) (string_bytes c.args.text.now)

pub loop-number-preserved : goal.loop-number-preserved
loop-number-preserved c =
    let place = c.loop-number.number in
    let labels = c.from-labels.result in
    let marks = mark_of labels c.args.rows.now in
    let old = string_bytes c.args.text.now in
    let text = string_bytes c.loop-number.text in
    elim c.if-has_pair.branch [
      | then-has_pair+in_ok-writeln w ↦
          rw w.text-is (lines-marked labels marks place old text (string_bytes w.writeln.new.self)
          (sym c.has_pair.ensures ∙ w.if-has_pair.true) c.loop-number.invariant w.in_ok-writeln.ensures.bytes)
      | else-has_pair w ↦ rw w.text-is
          (lines-unmarked labels marks place old text
          (sym c.has_pair.ensures ∙ w.if-has_pair.false) c.loop-number.invariant)
    ]
