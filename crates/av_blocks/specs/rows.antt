pub mod FileRows
pub mod FunctionRows
pub mod GenericRows
pub mod RegionRows
