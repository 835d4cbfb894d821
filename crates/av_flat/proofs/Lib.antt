pub mod ScalarParts
pub mod Agreement
pub mod Untouched
pub mod Inside
