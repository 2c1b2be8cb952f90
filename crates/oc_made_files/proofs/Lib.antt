pub mod MadeLaws
pub mod ShownLines
