use Rattle.proof_check.proofs.row_index.RowIndex.find.Goals as goal

pub returns : goal.returns
returns g c = rw (← c.self.view_is) c.search.ensures
