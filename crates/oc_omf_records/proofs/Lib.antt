pub mod CopyLaws
pub mod CopyLemmas
pub mod EncodingLaws
pub mod ReadingLemmas
pub mod RowLemmas
pub mod SizedLemmas
pub mod SeekingLemmas
mod WorkedCases
pub mod WrittenLaws
