pub mod Forms
pub mod Lighter
pub mod Choice
pub mod Depth
