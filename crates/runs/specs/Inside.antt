-- Definitions that only clauses of this crate's own functions cite.
pub mod Verdicts
pub mod Faults
pub mod SolveRun
pub mod Symmetries
pub mod Chaining
