pub mod Solving
pub mod Ending
pub mod Striking
pub mod Words
pub mod Sizes
pub mod LabelSets
pub mod SafeAnswers
pub mod Inside
