pub mod BatchLaws
pub mod ListLaws
mod Rows
pub mod RunLaws
