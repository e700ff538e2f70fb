pub mod Adding
pub mod Places
pub mod Urls
pub mod Positions
pub mod KindPlaces
