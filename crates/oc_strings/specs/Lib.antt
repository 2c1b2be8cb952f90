pub mod Inside
pub mod Keys
pub mod Order
pub mod Parts
pub mod Repeats
pub mod Tables
