pub mod Scalars
pub mod States
pub mod Entries
pub mod Holders
pub mod Objects
pub mod Results
