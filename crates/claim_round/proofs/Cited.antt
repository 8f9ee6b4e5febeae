-- The lemmas that crates above cite, passed on from one place. Declares nothing.
pub use Rattle.claim_round.proofs.Lending.{round_sync}
