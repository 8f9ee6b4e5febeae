use Rattle.index_lists.proofs.KeptLists.{fits, home-of_in, elsewhere-same}
use Rattle.index_lists.proofs.laws.nodes_in_lists.Goals as goal

pub returns : goal.returns
returns c = record { fit = fits; home = home-of_in; elsewhere = elsewhere-same }
