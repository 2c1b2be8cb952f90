mod ComputedRows
mod RelocConditionRows
mod SameRows
mod UnfitRows
pub mod Aligning
pub mod Commas
pub mod Counting
pub mod Cut
pub mod Dressing
pub mod Emitting
pub mod Finding
pub mod FitComputed
pub mod FitLinks
pub mod Giving
pub mod KeyPlaces
pub mod Keyed
pub mod Lately
pub mod Marking
pub mod MeetsCoff
pub mod MeetsConditions
pub mod MeetsCounts
pub mod MeetsElf
pub mod MeetsGroups
pub mod MeetsKinds
pub mod MeetsMach
pub mod MeetsMachKinds
pub mod MeetsNames
pub mod MeetsOmf
pub mod MeetsParts
pub mod MeetsRelocs
pub mod MeetsRows
pub mod MeetsStringSum
pub mod MeetsStrings
pub mod Naming
pub mod PlaceLemmas
pub mod Refit
pub mod SeenLaws
pub mod SeenMoved
pub mod SeenObject
pub mod SeenReady
pub mod SeenRelocs
pub mod Shifting
pub mod Sorting
pub mod Steps
pub mod StoredConstants
