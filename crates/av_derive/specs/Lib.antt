pub mod ClassOf
pub mod Derivation
pub mod State
pub mod WordLengths
