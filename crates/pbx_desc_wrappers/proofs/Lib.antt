pub mod Held
pub mod Wrappers
pub mod Sound
