pub mod Addresses
pub mod Bodies
pub mod Canonical
pub mod Layout
pub mod Lines
pub mod Symbols
pub mod Writing
