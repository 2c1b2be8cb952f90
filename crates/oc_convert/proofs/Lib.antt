mod IdentifyRows
mod DispatchRows
pub mod Firsts
pub mod Notes
pub mod Outlines
pub mod Ready
pub mod Whole
