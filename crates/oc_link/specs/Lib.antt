pub mod Laws
pub mod Linked
pub mod Pieces
pub mod Texts
pub mod Values
