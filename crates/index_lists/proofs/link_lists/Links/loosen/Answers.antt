use Rattle.std.proofs.Common.{refl}
use Rattle.std.proofs.lemmas.List.{map-set}
use Rattle.index_lists.proofs.Fields.{links-same}
use Rattle.index_lists.proofs.link_lists.Links.loosen.Goals as goal

pub returns : goal.returns
returns c = rw (← c.self.view_is) (links-same (map-set _ _ _ _) (map-set _ _ _ _) (map-set _ _ _ _) refl refl refl)
