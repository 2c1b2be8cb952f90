pub mod FieldLaws
pub mod FoldLaws
pub mod Laws
