pub mod Fields
pub mod Folds
pub mod Promises
pub mod Residues
