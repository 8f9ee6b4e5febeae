use Rattle.std.proofs.Common.{◌≡◌, ◌∙◌, sym, ap, subst, arith}
use Rattle.std.proofs.lemmas.List.{take_all}
use Rattle.proof_check.specs.RowNumbers.{class_numbers}
use Rattle.proof_check.specs.Inside.PartedNumbers.{Ascends}
use Rattle.proof_check.proofs.RowSearch.{ascends}
use Rattle.proof_check.proofs.row_numbers.numbers_of.Goals as goal

pub new-requires : goal.new-requires
new-requires g c =
    let board = c.args.board.now in
    let rows = c.args.rows.now in
    let end = c.loop-row.auto.row-index-end in
    let all : c.loop-row.numbers.items ≡ class_numbers board g.R.ClassRow.at rows =
    c.loop-row.invariant ∙ ap (class_numbers board g.R.ClassRow.at)
    (take_all c.loop-row.row-index rows (omega (arith, end, c.loop-row-test.false))) in
    subst Ascends (sym all) (ascends board g.R.ClassRow.at rows c.requires)
