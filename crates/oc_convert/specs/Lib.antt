pub mod Converted
pub mod Dispatched
pub mod Identified
pub mod Refusals
