pub mod Named
pub mod Walk
pub mod Texts
pub mod Counted
pub mod Seen
pub mod Viewed
