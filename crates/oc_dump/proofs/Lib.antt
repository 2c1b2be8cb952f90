pub mod HexLemmas
pub mod LineLemmas
mod Rows
