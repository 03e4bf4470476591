pub mod Composed
pub mod Spelled
