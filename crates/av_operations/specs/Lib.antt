pub mod rows
pub mod Taking
