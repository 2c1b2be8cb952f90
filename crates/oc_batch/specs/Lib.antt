pub mod Batches
pub mod Faults
pub mod Lists
pub mod Runs
pub mod Texts
