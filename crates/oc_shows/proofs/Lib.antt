mod BuiltExample
mod BuiltRows
mod RelocRows
mod SeenRows
pub mod Addable
pub mod AddedLaws
pub mod AgainLaws
pub mod BegunLaws
pub mod Blank
pub mod BuiltContents
pub mod BuiltLaws
pub mod BuiltSeen
pub mod BuiltSteps
pub mod BuiltWhole
pub mod CleanLaws
pub mod ComputedRelocs
pub mod FoundLaws
pub mod GivenLaws
pub mod Holding
pub mod KeyListLemmas
pub mod KeysBegun
pub mod KeysMore
pub mod Linked
pub mod Looking
pub mod NormalValues
pub mod PlacedSymbols
pub mod Reordered
pub mod RepeatLaws
pub mod RowFieldLaws
pub mod RowValueLaws
pub mod SeenAlike
pub mod SeenFamilies
pub mod SeenLines
pub mod SeenTables
pub mod Showing
pub mod ShownComputed
pub mod StartedLaws
pub mod Truth
