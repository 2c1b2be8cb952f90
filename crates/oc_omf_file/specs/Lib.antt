pub mod Canonical
pub mod Fixups
pub mod Names
pub mod Outputs
pub mod Pieces
pub mod Writing
