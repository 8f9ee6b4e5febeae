pub mod Showing
pub mod Watching
pub mod Inside
