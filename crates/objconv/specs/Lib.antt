pub mod Conversions
pub mod Listings
pub mod Making
pub mod Refusals
pub mod Reports
pub mod Runs
