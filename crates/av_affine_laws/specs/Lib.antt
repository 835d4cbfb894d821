pub mod Normal
pub mod FormLaws
pub mod Normalised
pub mod NormalisedLaws
