pub mod Descriptors
pub mod Shapes
pub mod Laws
