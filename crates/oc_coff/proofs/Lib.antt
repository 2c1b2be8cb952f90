mod BigFaultRows
pub mod BigFiles
mod FaultRows
pub mod HeadLemmas
pub mod NameLemmas
mod ReadingRows
pub mod StructureLemmas
pub mod WorkedFiles
