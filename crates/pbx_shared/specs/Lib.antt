pub mod Block
pub mod Numbering
pub mod Ownership
