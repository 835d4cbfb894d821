pub mod seq
pub mod held
