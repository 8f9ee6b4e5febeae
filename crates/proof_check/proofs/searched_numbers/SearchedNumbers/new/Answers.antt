use Rattle.proof_check.proofs.PartedNumbers.{parts_below, parted}
use Rattle.proof_check.proofs.searched_numbers.SearchedNumbers.new.Goals as goal

pub starts_of-requires-clause-all : goal.starts_of-requires-clause-all
starts_of-requires-clause-all c = rw (c.deref-2.ensures.value, c.part_of.ensures.part)
    (parts_below c.args.numbers.items c.shift_of-shift.result c.last_of-last.result
    (rw c.deref.ensures.value at c.last_of-last.ensures))

pub invariant_of-result : goal.invariant_of-result
invariant_of-result c = parted c.args.numbers.items c.shift_of-shift.result _ c.in_ok-starts.starts.items c.requires
    c.shift_of-shift.ensures
    (rw c.part_of.ensures.part (parts_below c.args.numbers.items c.shift_of-shift.result c.last_of-last.result
    (rw c.deref.ensures.value at c.last_of-last.ensures)))
    c.in_ok-starts.ensures.0 (rw c.deref-2.ensures.value at c.in_ok-starts.ensures.1)
