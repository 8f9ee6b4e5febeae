use Rattle.positions.proofs.GapLaws.{pebble_below, member_is, label_of_member, gap_of-member_of}
use Rattle.positions.proofs.laws_of_gaps.members_of_gaps.Goals as goal

pub returns : goal.returns
returns c =
    record { is_pebble = pebble_below; is_configuration = member_is; label = label_of_member; gap = gap_of-member_of }
