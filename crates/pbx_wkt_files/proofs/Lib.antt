pub mod Found
pub mod Joined
