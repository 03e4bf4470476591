pub mod Keeps
pub mod Made
pub mod Permissions
pub mod Planning
pub mod Products
pub mod Soon
pub mod Weights
