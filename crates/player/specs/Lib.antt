pub mod Words
pub mod Transcript
pub mod Prompts
pub mod Play
pub mod Laws
pub mod Opened
pub mod NestedPlay
pub mod Inside
