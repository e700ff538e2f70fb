pub mod Ascends
pub mod Blocks
pub mod BodyItems
pub mod Locations
