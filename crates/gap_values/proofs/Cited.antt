-- The lemmas that crates above cite, passed on from one place. Declares nothing.
pub use Rattle.gap_values.proofs.BestAnswers.{answer-taken, answers-over, most-after}
pub use Rattle.gap_values.proofs.ClosedGaps.{class-configuration, first-closed, gap-is, like-closed, member-like}
pub use Rattle.gap_values.proofs.Words.{before-from, before-to, result-class, result-is, round-finite, round-none}
pub use Rattle.gap_values.proofs.ClassCounts.{count-occurs, occurs-counted}
