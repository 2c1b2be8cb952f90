pub mod Files
pub mod Functions
