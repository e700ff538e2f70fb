pub mod Sources
pub mod Files
pub mod Summary
