pub mod Listed
pub mod Standard
pub mod Kept
pub mod Repeats
pub mod Among
pub mod SetAgain
pub mod RepeatsAgain
pub mod Tried
