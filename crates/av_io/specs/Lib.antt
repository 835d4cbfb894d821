pub mod Devices
pub mod Feed
pub mod PlainSource
pub mod PlainSink
pub mod MemSource
pub mod MemSink
pub mod StdSource
pub mod StdSink
