pub mod Rows
pub mod TableLaws
