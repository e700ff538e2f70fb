pub mod Json
pub mod Top
pub mod Input
pub mod Parts
pub mod Laws
pub mod Again
