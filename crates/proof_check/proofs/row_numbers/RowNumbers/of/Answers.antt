use Rattle.proof_check.proofs.CheckedRows.{labeller_in_order, adversary_in_order}
use Rattle.proof_check.proofs.row_numbers.RowNumbers.of.Goals as goal

pub numbers_of-requires : goal.numbers_of-requires
numbers_of-requires c =
    rw c.deref.ensures.value (labeller_in_order c.args.board.now c.args.proof.now c.requires)

pub numbers_of-requires-2 : goal.numbers_of-requires-2
numbers_of-requires-2 c =
    rw c.deref-2.ensures.value (adversary_in_order c.args.board.now c.args.proof.now c.requires)
