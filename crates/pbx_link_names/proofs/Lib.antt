pub mod Values
pub mod Sets
pub mod Trees
pub mod Starts
pub mod Added
