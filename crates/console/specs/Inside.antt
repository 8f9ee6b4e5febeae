-- Definitions that clauses of this crate's own functions cite, and no public contract.
pub mod Showing
