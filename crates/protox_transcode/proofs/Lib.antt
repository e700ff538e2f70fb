pub mod Judged
pub mod SetOf
pub mod Transcoding
pub mod Determined
pub mod Refused
pub mod Again
pub mod Tries
pub mod JsonText
