use Rattle.std.proofs.Common.{◌≡◌, take}
use Rattle.proof_check.specs.RowNumbers.{class_numbers}
use Rattle.proof_check.proofs.row_numbers.numbers_of.Given as goal

abbrev pub invariant-loop-row : goal.invariant-loop-row
invariant-loop-row g l = l.numbers.items ≡ class_numbers l.board g.R.ClassRow.at (take l.row-index l.rows)
