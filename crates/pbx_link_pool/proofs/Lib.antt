pub mod Numbered
pub mod Maps
pub mod Packaged
pub mod Told
pub mod Whole
pub mod Indexed
pub mod Found
