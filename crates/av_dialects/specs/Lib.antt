pub mod Ends
pub mod Rows
pub mod TableLaws
pub mod Types
