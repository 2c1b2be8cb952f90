pub mod Dropping
pub mod KeptShows
pub mod Laws
pub mod Refusals
pub mod Steps
