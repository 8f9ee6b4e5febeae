pub mod Rounds
mod ClassValues
pub mod Cited
