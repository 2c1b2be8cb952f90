pub mod Anchors
pub mod Holders
pub mod Judged
