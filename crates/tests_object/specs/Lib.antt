pub mod Elf
pub mod Small
