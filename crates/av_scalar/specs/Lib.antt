pub mod Meeting
pub mod Names
pub mod Stores
pub mod Maps
pub mod Machines
