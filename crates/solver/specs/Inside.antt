-- Definitions for the clauses of this crate's own functions; no public contract cites them.
pub mod Stage
pub mod Tables
pub mod Opening
pub mod SourceWalk
pub mod Values
