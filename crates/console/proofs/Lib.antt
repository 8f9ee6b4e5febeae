pub mod ShownTexts
pub mod Fronts
pub mod MoreTexts
pub mod ToldSteps
pub mod Cited
