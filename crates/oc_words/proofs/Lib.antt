pub mod Counting
pub mod Cutting
pub mod ReadingLaws
mod Rows
