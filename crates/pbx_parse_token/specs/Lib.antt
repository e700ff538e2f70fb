pub mod Tokens
pub mod Bytes
pub mod Escapes
pub mod Places
pub mod Pieces
pub mod Scan
pub mod View
