pub mod Scalars
pub mod Wrapped
