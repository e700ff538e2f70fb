pub mod Lookups
pub mod Readings
mod Texts
