pub mod Faults
pub mod Formats
pub mod Jobs
pub mod Messages
pub mod Options
pub mod Readings
pub mod Texts
