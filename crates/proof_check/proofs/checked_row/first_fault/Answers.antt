use Rattle.std.proofs.Common.{Some, None}
use Rattle.std.proofs.lemmas.List.Elements.{All-contains}
use Rattle.proof_check.proofs.Steps.{among}
use Rattle.proof_check.proofs.FirstRow.{first_of_slice, fault_of_first}
use Rattle.proof_check.proofs.checked_row.first_fault.Goals as goal

pub fault-requires : goal.fault-requires
fault-requires g c =
    let checker = c.args.checker.now in
    let rows = c.args.rows.now in
    let row = c.in_ok-faulty.field-0 in
    let found = first_of_slice (g.R.CheckedRow.meets checker) rows _
    (Some row) c.par_iter.ensures c.in_ok-faulty.ensures in
    All-contains (g.R.CheckedRow.is_ready checker) rows row.now c.requires (among found.first)

pub returns : goal.returns
returns g c =
    let checker = c.args.checker.now in
    let rows = c.args.rows.now in
    let row = c.in_ok-faulty.field-0 in
    let found = first_of_slice (g.R.CheckedRow.meets checker) rows _
    (Some row) c.par_iter.ensures c.in_ok-faulty.ensures in
    fault_of_first (g.R.CheckedRow.meets checker)
    (g.R.CheckedRow.is_wrong checker) rows row.now c.fault.result found c.fault.ensures.fault

pub returns-in_err-faulty : goal.returns-in_err-faulty
returns-in_err-faulty g c =
    rw c.from_residual.ensures
    (first_of_slice
    (g.R.CheckedRow.meets c.args.checker.now) c.args.rows.now _ None c.par_iter.ensures c.in_err-faulty.ensures)
