pub mod Chained
pub mod Listed
pub mod Standard
pub mod Laws
pub mod Sets
pub mod Indexes
