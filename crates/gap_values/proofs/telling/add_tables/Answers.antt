use Rattle.std.proofs.Common.{◌≡◌, ◌+◌, ◌*◌, ◌<◌, ℕ, [], length, get_or, ap, ◌∙◌, arith}
use Rattle.std.proofs.lemmas.List.{get_or_read}
use Rattle.gap_values.proofs.TableSteps.{in-table, tables-more}
use Rattle.gap_values.proofs.telling.add_tables.Goals as goal

pub loop-table-preserved : goal.loop-table-preserved
loop-table-preserved g c =
    let list : ℕ = c.args.first + c.loop-index.index in
    let at : ℕ = c.loop-table.table * c.args.lists + c.args.first + c.loop-index.index in
    let at_is : at ≡ c.loop-table.table * c.args.lists + list = omega arith in
    let list_low : list < c.args.lists =
    omega (arith, c.requires.lists, c.loop-index-test.true, c.loop-index.invariant.same_length) in
    let inside : at < length c.args.told.now =
    omega (
      arith,
      at_is,
      in-table c.args.tables c.args.lists c.loop-table.table list (length c.args.told.now)
          c.requires.told c.loop-table-test.true list_low,
    ) in
    tables-more c.args.lists c.args.told.now list c.loop-table.table (get_or c.loop-index.sets c.loop-index.index [])
    c.loop-table.set c.index-told-table.result c.union-set.result
    (get_or_read c.args.told.now at c.index-told-table.result inside c.index-told-table.is []
    ∙ ap (λ n. get_or c.args.told.now n []) at_is) c.union-set.ensures c.loop-table.invariant
