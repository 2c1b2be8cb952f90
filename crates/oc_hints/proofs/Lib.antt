mod HintRows
pub mod Steps
