pub mod CountLemmas
pub mod HeaderLemmas
