pub mod Making
pub mod Items
