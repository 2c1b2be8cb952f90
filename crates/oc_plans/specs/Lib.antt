pub mod Alone
pub mod Numbered
pub mod Slots
