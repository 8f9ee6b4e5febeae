-- The lemmas that crates above cite, passed on from one place. Declares nothing.
pub use Rattle.retro_core.proofs.Histories.{answer-before, answer-last, closed-always, closed-gone, closed-once}
pub use Rattle.retro_core.proofs.Histories.{lead-more, lost-opened, won-told}
pub use Rattle.retro_core.proofs.OwedWalks.{IsOwing}
pub use Rattle.retro_core.proofs.RoundLaws.{source-once, source-rank}
pub use Rattle.retro_core.proofs.RoundSteps.{opening-lawful, steps-lawful, strike-lawful, try-lawful, worked-off}
pub use Rattle.retro_core.proofs.SeatSteps.{split_first, times_here}
pub use Rattle.retro_core.proofs.SeatSums.{times-cut, times-together, total-at, total-cut, total-set}
