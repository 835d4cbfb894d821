pub mod Pattern
pub mod Scalar
pub mod Kinds
pub mod Laws
