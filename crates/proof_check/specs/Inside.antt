-- Definitions that clauses of this crate's own functions cite, and no public contract.
pub mod Checker
pub mod ClassChecker
pub mod FoundRow
pub mod GapBounds
pub mod RowCounts
pub mod RowIndex
pub mod RowSearch
pub mod PartedNumbers
