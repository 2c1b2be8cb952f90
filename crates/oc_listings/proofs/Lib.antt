pub mod DigitLaws
pub mod RestLaws
pub mod LineLaws
pub mod ListingLaws
mod Steps
