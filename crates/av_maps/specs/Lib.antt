pub mod Names
pub mod Written
pub mod WrittenLaws
pub mod Asked
pub mod Roles
pub mod Applying
pub mod ApplyingLaws
pub mod Examples
