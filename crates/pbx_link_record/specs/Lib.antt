pub mod Unknown
pub mod Settled
pub mod Linked
pub mod Parts
pub mod Laws
