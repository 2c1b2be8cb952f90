pub mod CheckLemmas
pub mod DigitLemmas
pub mod FileLemmas
pub mod FootprintLemmas
pub mod IndexLemmas
pub mod LineLemmas
pub mod LinkingLemmas
pub mod PartLemmas
mod Rows
pub mod SplitLemmas
pub mod WordLemmas
