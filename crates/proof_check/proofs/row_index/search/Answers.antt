use Rattle.std.proofs.Common.{rules}
use Rattle.std.proofs.lemmas.List.Sorted.{answers_always}
use Rattle.proof_check.proofs.RankSearch.{one_found, none_found}
use Rattle.proof_check.proofs.row_index.search.Goals as goal

pub returns-in-Ok : goal.returns-in-Ok
returns-in-Ok g c =
    let equal = c.in-Ok.ensures.position g.R.Ranked.rank (answers_always _ _ _ (λ f a r h called. search rules)) in
    one_found g.R.Ranked.rank c.args.rows.now c.args.rank c.in-Ok.number _ c.in-Ok.ensures.bound equal
    c.index-rows-number.is

pub returns-in-Err : goal.returns-in-Err
returns-in-Err g c =
    let parted = c.in-Err.ensures.position g.R.Ranked.rank (answers_always _ _ _ (λ f a r h called. search rules)) in
    none_found g.R.Ranked.rank c.args.rows.now c.args.rank c.in-Err.field-0 c.requires parted
