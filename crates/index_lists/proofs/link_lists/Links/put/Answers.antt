use Rattle.std.proofs.Common.{refl, ap}
use Rattle.std.proofs.lemmas.List.{map-set}
use Rattle.std.proofs.Math.Seq.{map-set_same}
use Rattle.index_lists.proofs.Fields.{links-same}
use Rattle.index_lists.proofs.link_lists.Links.put.Goals as goal

pub returns : goal.returns
returns c =
    let next_same = map-set_same _ _ _ _ c.index_mut-links.result.now
    (ap (λ n. n.next) c.index_mut-links.ensures.value) in
    rw (← c.self.view_is) (links-same next_same (map-set _ _ _ _) (map-set _ _ _ _) refl refl refl)
