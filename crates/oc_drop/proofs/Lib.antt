pub mod Detached
pub mod DroppedSections
pub mod DroppedShows
pub mod DroppedSymbols
mod DroppingRows
pub mod Examples
pub mod Filed
pub mod FirstLaws
pub mod NothingDropped
pub mod StepLaws
pub mod Stopping
