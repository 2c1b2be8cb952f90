pub mod ElfOwn
pub mod Expressible
pub mod Making
pub mod SeenMade
