pub mod NameLaws
pub mod TextLaws
pub mod FileLaws
pub mod WriteLaws
pub mod ReadLaws
pub mod SlotLaws
