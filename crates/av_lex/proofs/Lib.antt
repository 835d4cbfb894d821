pub mod Runs
pub mod KindOf
pub mod NextTokens
pub mod BadBytes
pub mod OneReading
pub mod Scanning
