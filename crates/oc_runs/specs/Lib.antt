pub mod Ends
pub mod Refusals
pub mod Reports
pub mod States
pub mod Texts
