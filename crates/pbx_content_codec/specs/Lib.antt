pub mod View
pub mod Places
pub mod Code
pub mod Fields
pub mod Breaks
pub mod Merging
pub mod Keyed
pub mod Stability
