use Rattle.positions.proofs.GapLaws.{gap_below, pebble_of-gap_of, member_of-gap_of, own_member as own}
use Rattle.positions.proofs.laws_of_gaps.gaps_of_configurations.Goals as goal

pub returns : goal.returns
returns c = record { is_gap = gap_below; pebble = pebble_of-gap_of; members = member_of-gap_of; own_member = own }
