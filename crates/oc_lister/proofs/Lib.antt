pub mod ReadLaws
mod ElfRows
mod CoffRows
mod MachRows
mod OmfRows
