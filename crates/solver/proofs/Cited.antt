-- The lemmas that crates above cite, passed on from one place. Declares nothing.
pub use Rattle.solver.proofs.AnswerSizes.{above-size, count-same, live-size}
pub use Rattle.solver.proofs.Lending.{by_ranks_sync, solver_sync}
pub use Rattle.solver.proofs.ListedRanks.{stands-false, stands-some, stands-true, times-filter-le, times-filter-true}
pub use Rattle.solver.proofs.RoundsLeft.{fewer_left, rounds_left}
pub use Rattle.solver.proofs.StruckRanks.{is-struck, struck-is}
pub use Rattle.solver.proofs.Tallies.{live-tally}
