use Rattle.domains.proofs.ResiduesByHand.{held_kept}
use Rattle.domains.proofs.residues_by_hand.three_last_on_residues.Goals as goal

pub returns : goal.returns
returns c = λ board configuration circle three held.
    c.kept_properties_last.ensures.for_ever board (held_kept board circle three) configuration held
