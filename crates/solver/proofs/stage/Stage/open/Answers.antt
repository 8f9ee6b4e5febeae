use Rattle.std.proofs.Common.{◌+◌, ◌∙◌, ap, refl}
use Rattle.std.proofs.lemmas.List.FromFn.{length-map-range_with_len}
use Rattle.solver.proofs.FiledRanks.{list-shown}
use Rattle.solver.proofs.stage.Stage.open.Goals as goal

pub list_zeros-requires : goal.list_zeros-requires
list_zeros-requires g c =
    let lists = c.in_ok-buckets.ensures in
    record {
      value_is = refl;
      counts_are = c.in_ok-counts.ensures;
      words_are = c.in_ok-values.ensures;
      lists_length =
          length-map-range_with_len (g.S.ListStore.state c.in_ok-buckets.buckets).list 0 _ ∙ lists.empty.same_lists
          ∙ ap (λ n. n + 1) c.configurations-size.ensures.value;
      lists_are = λ v. list-shown _ lists.kept v ∙ lists.empty.same_list v;
    }
