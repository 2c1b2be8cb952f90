pub mod Aimed
pub mod Classed
pub mod Found
pub mod Judged
pub mod Led
pub mod Numbered
pub mod Relocs
pub mod Tagged
