pub mod Places
pub mod Items
pub mod Packages
pub mod Index
pub mod Refused
