pub mod RereadLaws
pub mod Returns
pub mod ReturnLaws
pub mod PlacesLaws
