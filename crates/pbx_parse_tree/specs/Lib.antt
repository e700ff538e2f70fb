pub mod Words
pub mod Options
pub mod Tree
pub mod Grammar
pub mod Conditions
pub mod View
pub mod Fits
