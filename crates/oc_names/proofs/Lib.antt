pub mod AliasLaws
pub mod Behind
mod BindingRows
pub mod EditPlaceLaws
pub mod EditSteps
pub mod EditedParts
pub mod EditedReadable
mod EditedRows
pub mod EditedSections
pub mod EditedShown
pub mod EditedWorth
pub mod Examples
pub mod FieldBounds
pub mod FieldsLeft
pub mod FiledNames
pub mod FiledSymbols
pub mod FixedSymbols
pub mod KeptFields
pub mod KeptLooks
mod KeptRows
mod KeyRows
pub mod LeftLists
pub mod NameChecks
mod NameRows
pub mod NamedObject
pub mod NamedParts
pub mod NamedShows
pub mod NormalFields
pub mod NormalObject
pub mod PlaceLaws
pub mod ReboundConstants
pub mod ReboundFields
pub mod ReboundShows
pub mod ReboundSymbols
pub mod RenameTables
pub mod SiteLaws
pub mod Skipped
pub mod Turns
pub mod TurnsBindings
pub mod TurnsFallbacks
pub mod TurnsFields
pub mod TurnsKeys
pub mod TurnsNames
pub mod TurnsObjects
pub mod TurnsOrigins
mod TurnsRows
pub mod TurnsSymbols
pub mod TurnsWords
pub mod Unedited
pub mod WordLaws
