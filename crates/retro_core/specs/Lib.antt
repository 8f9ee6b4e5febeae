pub mod Round
pub mod Stepping
pub mod History
