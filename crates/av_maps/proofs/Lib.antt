pub mod Meanings
pub mod OwnPlaces
pub mod TextVariants
pub mod Usable
pub mod Variants
