pub mod Added
pub mod Ascending
pub mod Items
pub mod Last
pub mod Paths
pub mod Skipped
