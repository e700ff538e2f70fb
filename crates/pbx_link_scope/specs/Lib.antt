pub mod Scope
pub mod Pooled
