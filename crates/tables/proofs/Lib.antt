pub mod Entries
pub mod Falling
pub mod Valuing
