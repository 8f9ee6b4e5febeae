-- Definitions for the clauses of this crate's own functions; no public contract cites them.
pub mod Tables
pub mod Filling
pub mod Families
