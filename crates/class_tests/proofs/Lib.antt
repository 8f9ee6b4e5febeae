pub mod ListedClasses
