pub mod Outward
pub mod Found
