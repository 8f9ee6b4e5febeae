pub mod Words
pub mod Shared
pub mod History
pub mod Rule
pub mod Plays
pub mod Reasons
pub mod Calls
pub mod Inside
