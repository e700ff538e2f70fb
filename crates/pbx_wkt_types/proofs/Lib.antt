pub mod Places
pub mod WellKnown
pub mod Declared
pub mod Forms
mod Texts
mod Rows
mod ShapeRows
