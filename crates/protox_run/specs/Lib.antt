pub mod Class
pub mod Outcome
pub mod Stops
pub mod Told
pub mod Run
pub mod Parts
pub mod Laws
