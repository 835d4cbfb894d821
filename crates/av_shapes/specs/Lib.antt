pub mod Shape
pub mod Inside
pub mod Places
pub mod Order
