pub mod Opened
pub mod Walk
pub mod Laws
