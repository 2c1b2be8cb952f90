pub mod HolderLemmas
pub mod JudgingLemmas
pub mod RelocLemmas
pub mod SectionLemmas
pub mod SymbolLemmas
pub mod WideLemmas
