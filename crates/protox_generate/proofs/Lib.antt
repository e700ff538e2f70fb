pub mod Texts
pub mod Transcoded
