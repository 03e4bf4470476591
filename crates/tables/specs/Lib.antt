pub mod Ranges
pub mod Falls
pub mod Rows
pub mod Valuation
pub mod Worked
