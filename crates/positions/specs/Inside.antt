-- Definitions for the clauses of this crate's own functions; no public contract cites them.
pub mod Game
pub mod LabelWalk
pub mod LegalWords
pub mod Position
pub mod Tuples
pub mod Weights
