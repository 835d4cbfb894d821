pub mod Expressions
pub mod Nested
pub mod Turns
pub mod Several
pub mod MadeNodes
pub mod Unnamed
