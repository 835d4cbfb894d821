pub mod Giving
pub mod Types
pub mod Expressions
pub mod Subscripts
pub mod Attributes
pub mod Trees
pub mod Laws
