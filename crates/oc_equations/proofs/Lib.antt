mod FaultRows
mod FormRows
pub mod Equations
pub mod FiledForms
pub mod FinalFields
pub mod FinalForms
pub mod FinalKeys
pub mod FinalNames
pub mod FinalParts
pub mod FirstOnly
pub mod Firsts
pub mod FoldedBytes
pub mod Forms
pub mod GroupsLeft
pub mod KeptItems
pub mod LawProofs
