pub mod OneLine
pub mod Refusals
