pub mod Rules
pub mod Members
