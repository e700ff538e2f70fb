pub mod Opened
pub mod Looked
pub mod Rules
pub mod Linked
pub mod Kept
