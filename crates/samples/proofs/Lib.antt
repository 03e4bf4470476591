pub mod Fits
pub mod Telling
