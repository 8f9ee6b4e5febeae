-- The lemmas that crates above cite, passed on from one place. Declares nothing.
pub use Rattle.round_workers.proofs.Rounds.{value_few}
