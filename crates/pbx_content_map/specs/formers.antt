pub mod map
