pub mod Case
pub mod Classes
pub mod Fields
pub mod Files
pub mod Hints
pub mod Names
pub mod Sections
pub mod Symbols
