pub mod Indexes
pub mod Kinds
pub mod Refusals
pub mod Writings
pub mod Lines
pub mod Payloads
