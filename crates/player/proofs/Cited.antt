-- The lemmas that crates above cite, passed on from one place. Declares nothing.
pub use Rattle.player.proofs.OneTranscript.{one_transcript}
pub use Rattle.player.proofs.ToldPlays.{nothing_told}
