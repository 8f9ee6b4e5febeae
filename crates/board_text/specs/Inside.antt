-- Definitions for the clauses of this crate's own functions; no public contract cites them.
pub mod BoardText
pub mod Domination
pub mod LineForms
pub mod PairFaults
pub mod Parsing
pub mod PlaceForms
