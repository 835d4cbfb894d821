pub mod Classes
pub mod Forms
pub mod Needs
pub mod Sets
pub mod Signs
pub mod Table
pub mod Templates
pub mod rows
