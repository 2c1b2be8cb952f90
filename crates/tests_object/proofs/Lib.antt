pub mod ElfObjects
pub mod SmallObjects
