use Rattle.board_text.proofs.Numbers.{take_digits, drop_digits}
use Rattle.board_text.proofs.line_reader.split_digits.Goals as goal

pub returns-clause-digits : goal.returns-clause-digits
returns-clause-digits c = rw (c.split_at.ensures.front, c.count_digits.ensures.count) (take_digits c.args.bytes.now)

pub returns-clause-all : goal.returns-clause-all
returns-clause-all c = rw (c.split_at.ensures.back, c.count_digits.ensures.count) (drop_digits c.args.bytes.now)
