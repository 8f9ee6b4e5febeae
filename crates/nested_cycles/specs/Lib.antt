pub mod Words
pub mod Domination
pub mod NestedBoard
pub mod GoodWords
pub mod Reply
pub mod Copies
pub mod NestedGame
pub mod Inside
