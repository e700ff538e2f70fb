pub mod PathOrder
pub mod Retry
