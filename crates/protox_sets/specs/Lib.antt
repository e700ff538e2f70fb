pub mod Sets
pub mod Stops
pub mod Parts
