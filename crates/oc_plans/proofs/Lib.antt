pub mod FieldBytes
pub mod PlacedLemmas
pub mod SectionAlone
pub mod Turns
