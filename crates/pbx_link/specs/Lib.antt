pub mod Tables
pub mod Kinds
pub mod Pool
pub mod Bytes
