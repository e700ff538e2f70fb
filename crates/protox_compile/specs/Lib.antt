pub mod State
pub mod Sets
pub mod Repeats
pub mod Tries
pub mod Compiling
pub mod Again
