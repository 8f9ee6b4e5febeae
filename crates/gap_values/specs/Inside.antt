-- Definitions for the clauses of this crate's own functions; no public contract cites them.
pub mod ClassRounds
pub mod Counts
pub mod FamilyWeights
pub mod Sets
pub mod Closing
pub mod OpenWords
pub mod Rounds
pub mod Words
