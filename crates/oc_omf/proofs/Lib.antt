pub mod EachLemmas
pub mod EntryLemmas
mod FaultRows
pub mod HeaderLemmas
pub mod PlaceLemmas
mod ReadingRows
pub mod WorkedFiles
