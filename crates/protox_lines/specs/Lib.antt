pub mod Converted
pub mod Converter
pub mod Lines
pub mod Parts
pub mod Target
pub mod Run
pub mod Running
