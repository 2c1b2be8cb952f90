pub mod AddedRelocs
pub mod AddedSymbols
pub mod AddedTables
pub mod AimedFields
pub mod ApartEntries
pub mod BegunLemmas
pub mod BindingLemmas
pub mod BuildLemmas
pub mod ByteLemmas
pub mod CarriedLemmas
mod Compiled
mod CompiledRows
pub mod CompleteLemmas
pub mod FoundFields
pub mod GivenFields
pub mod KeyLemmas
mod ManySections
pub mod Objects
pub mod PlacedEntries
pub mod ReadableLemmas
pub mod ReaderLemmas
pub mod RowLemmas
mod Rows
pub mod ShowableLemmas
pub mod ShownFile
pub mod SoundSymbols
pub mod StandingFields
pub mod StoredLemmas
pub mod ValuedLemmas
pub mod WholeSymbols
