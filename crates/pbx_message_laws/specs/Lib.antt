pub mod Fields
pub mod Defaults
pub mod Settable
pub mod Laws
pub mod Pools
pub mod Oneofs
pub mod Types
