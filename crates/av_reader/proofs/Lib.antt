pub mod Worked
pub mod Typed
pub mod Refusing
