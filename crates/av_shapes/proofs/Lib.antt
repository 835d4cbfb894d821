pub mod Products
pub mod PlaceLemmas
pub mod ExtentLemmas
pub mod OrderLemmas
