-- The lemmas that crates above cite, passed on from one place. Declares nothing.
pub use Rattle.graphs.proofs.Counts.{count_below-same, count_below-none, count_below-some, count_below-without}
pub use Rattle.graphs.proofs.Counts.{count_below-less, count_below-bound}
pub use Rattle.graphs.proofs.Graphs.{same_is, without, IsBetween, member-is, member-at, one-place}
pub use Rattle.graphs.proofs.LastingRanks.{both_true, and_true, and_second, zero_is, positive_is, true_or_false}
pub use Rattle.graphs.proofs.LastingRanks.{true_not_false, next-gives, next-from, next-fails, next-closed, next-le}
pub use Rattle.graphs.proofs.LastingRanks.{next-same, live-le, live-same, same_test, lasts-less, lasts-at-most}
pub use Rattle.graphs.proofs.LastingRanks.{same_or_not, some_same, none_some}
pub use Rattle.graphs.proofs.NumberedGraphs.{numbered-is, numbered-shows, some-configurations}
pub use Rattle.graphs.proofs.Shown.{worth-is}
pub use Rattle.graphs.proofs.NumberedValues.{tree_of_lasts, lasts_of_tree, value_of_lasts, lasts_of_value}
pub use Rattle.graphs.proofs.NumberedValues.{forever_of_lasts, places_are}
pub use Rattle.graphs.proofs.Dominators.{ordered-gaps, dominator-some, dominator-none}
pub use Rattle.graphs.proofs.ConfigurationNumbers.{number-below, number-value}
pub use Rattle.graphs.proofs.FewNumbers.{numbers-fit}
pub use Rattle.graphs.proofs.RankTables.{answer-in, answer-of}
