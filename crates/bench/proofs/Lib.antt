pub mod Shaped
mod Numbered
