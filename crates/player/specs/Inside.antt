-- Definitions that clauses of this crate's own functions cite, and no public contract.
pub mod LineInput
pub mod PlayState
pub mod Transcript
pub mod Steps
pub mod Words
pub mod Prompts
