pub mod Rounding
pub mod Values
pub mod DivisionLaws
pub mod KindLaws
