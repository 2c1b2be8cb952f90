pub mod Digits
pub mod Laws
pub mod Listings
pub mod ObjectListings
pub mod Texts
