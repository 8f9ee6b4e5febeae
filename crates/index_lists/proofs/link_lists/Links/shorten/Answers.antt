use Rattle.std.proofs.Common.{refl, ap, ◌∙◌, length, map, slice_set, ◌-◌}
use Rattle.std.proofs.lemmas.List.{map-set}
use Rattle.std.proofs.Math.Seq.{map-set_same}
use Rattle.index_lists.proofs.Fields.{field-read, links-same}
use Rattle.index_lists.proofs.link_lists.Links.shorten.Goals as goal

pub returns : goal.returns
returns c =
    let first_same = map-set_same _ _ _ _ c.index_mut.result.now (ap (λ e. e.first) c.index_mut.ensures.value) in
    let last_same = map-set_same _ _ _ _ c.index_mut.result.now (ap (λ e. e.last) c.index_mut.ensures.value) in
    let lens = map (λ e. e.len) c.self.inside.ends.items in
    let read = field-read (λ e. e.len) _ lens _ _ _ refl
    (ap (λ s. length s.len) c.self.view_is) c.requires.list_in c.index_mut.ensures.value in
    rw (← c.self.view_is) (links-same refl refl refl first_same last_same
    (map-set _ _ _ _ ∙ ap (λ k. slice_set lens c.args.list (k - 1)) read))
