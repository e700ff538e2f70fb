pub mod Content
pub mod Sound
pub mod Building
pub mod Levels
pub mod Laws
pub mod Sets
