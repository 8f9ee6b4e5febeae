use Rattle.std.proofs.Common.{string_bytes, codes}
use Rattle.positions.specs.declared.side.Side.TheVariants.{Labeller}
use Rattle.runs.specs.Output.{class_row_words}
use Rattle.runs.proofs.WrittenWords.{pushed}
use Rattle.runs.proofs.output.write_class_fault.Goals as goal

pub returns-in_ok-write_class_row-in-IllegalAnswer : goal.returns-in_ok-write_class_row-in-IllegalAnswer
returns-in_ok-write_class_row-in-IllegalAnswer c =
    rw c.in-IllegalAnswer.is (pushed c.push_str-in-IllegalAnswer.result (string_bytes c.args.text.now)
    (string_bytes c.write_class_row.new.text) (string_bytes c.push_str-in-IllegalAnswer.new.self)
    (class_row_words c.args.board.now Labeller c.in-IllegalAnswer.at c.in-IllegalAnswer.pebble)
    (codes " illegal answer") c.in_ok-write_class_row-in-IllegalAnswer.ensures
    c.push_str-in-IllegalAnswer.ensures.bytes)

pub returns-in_ok-write_class_row-in-TooSmall : goal.returns-in_ok-write_class_row-in-TooSmall
returns-in_ok-write_class_row-in-TooSmall c =
    rw c.in-TooSmall.is (pushed c.push_str-in-TooSmall.result (string_bytes c.args.text.now)
    (string_bytes c.write_class_row-in-TooSmall.new.text) (string_bytes c.push_str-in-TooSmall.new.self)
    (class_row_words c.args.board.now Labeller c.in-TooSmall.at c.in-TooSmall.pebble)
    (codes " too small") c.in_ok-write_class_row-in-TooSmall.ensures c.push_str-in-TooSmall.ensures.bytes)
