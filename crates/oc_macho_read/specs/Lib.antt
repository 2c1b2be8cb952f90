pub mod Adding
pub mod Built
pub mod Given
pub mod Pins
pub mod Shown
