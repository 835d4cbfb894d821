pub mod Texts
pub mod Types
pub mod Maps
pub mod Constants
pub mod Names
pub mod Kinds
pub mod Properties
pub mod Trees
