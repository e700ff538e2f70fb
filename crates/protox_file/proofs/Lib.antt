pub mod Joined
pub mod Members
pub mod Folders
pub mod Sets
pub mod Once
pub mod BuiltIn
mod Indexes
