pub mod FaultLines
pub mod Folders
pub mod Consoles
pub mod Outcomes
pub mod Jobs
pub mod Telling
pub mod Serving
pub mod Servings
