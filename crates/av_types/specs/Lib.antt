pub mod Texts
pub mod Types
pub mod TypeLaws
pub mod Relations
pub mod RelationLaws
pub mod Examples
