pub mod Among
pub mod Overlaps
pub mod Reaching
pub mod Walked
pub mod Seen
pub mod Indexes
pub mod ItemPlaces
pub mod OptionPlaces
