pub mod Searched
pub mod Entries
pub mod Spelled
pub mod GoodEscapes
pub mod Extended
