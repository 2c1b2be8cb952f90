pub mod Causes
pub mod Outcomes
pub mod Runs
pub mod Texts
