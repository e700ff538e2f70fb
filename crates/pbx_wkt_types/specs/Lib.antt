pub mod Names
pub mod Types
pub mod Known
pub mod Shapes
pub mod Rows
