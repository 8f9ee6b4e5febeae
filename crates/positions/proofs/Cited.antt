-- The lemmas that crates above cite, passed on from one place. Declares nothing.
pub use Rattle.positions.proofs.BoundedSearch.{beats_or_not, dominates_or_not, each_or_some}
pub use Rattle.positions.proofs.Claims.{claim_holds}
pub use Rattle.positions.proofs.Configurations.{moved_is_configuration}
pub use Rattle.positions.proofs.CountsBelow.{count_below, count_below-add, count_below-suc, count_below-zero, size_of}
pub use Rattle.positions.proofs.Digits.{digits_below, length-digits_of}
pub use Rattle.positions.proofs.Finiteness.{forever_from_count, smaller_occurs, some_value}
pub use Rattle.positions.proofs.GapLaws.{gap_below, gap_of-member_of, label_of_member, legal_is_answer, member_is}
pub use Rattle.positions.proofs.GapLaws.{member_of-gap_of, one_gap, own_member, pebble_below, pebble_of-gap_of}
pub use Rattle.positions.proofs.LabelBits.{has_bit-set_other, has_bit-set_same, with_bit}
pub use Rattle.positions.proofs.Ranks.{configuration_at-rank_of, configuration_at_is, rank_below}
pub use Rattle.positions.proofs.Ranks.{rank_of-configuration_at}
pub use Rattle.positions.proofs.FactCounts.{same_fact_size, same_size, size_at_most, size_zero}
pub use Rattle.positions.proofs.Tables.{tree_from_answers}
pub use Rattle.positions.proofs.Trees.{lasts_at_most, not_both_trees, some_tree}
pub use Rattle.positions.proofs.Values.{at_most_from_tree, same_value}
pub use Rattle.positions.proofs.FactWalks.{AreFrom, after_step, from_zero, next_of, none_left, walk_begins}
