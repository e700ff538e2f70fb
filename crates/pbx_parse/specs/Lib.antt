pub mod Reads
pub mod Errors
