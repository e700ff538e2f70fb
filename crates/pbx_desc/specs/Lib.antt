pub mod Decoding
pub mod Exact
pub mod Taking
pub mod Messages
pub mod Laws
