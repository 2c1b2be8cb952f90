pub mod CommandLemmas
mod FaultRows
pub mod FrameLemmas
pub mod HeaderLemmas
pub mod NameLemmas
mod PaddingLemmas
mod ReadingRows
pub mod WorkedFiles
