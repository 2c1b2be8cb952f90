pub mod Conversions
pub mod Listings
pub mod Refusals
pub mod Rooms
pub mod Said
pub mod Version
pub mod Words
