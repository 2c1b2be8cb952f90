mod Example
pub mod ReadingLaws
mod Worked
pub mod WritingLaws
