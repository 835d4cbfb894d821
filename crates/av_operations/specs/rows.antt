pub mod AffineRows
pub mod ArithRows
