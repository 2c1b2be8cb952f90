pub mod Counted
pub mod Did
pub mod Made
