pub mod Around
pub mod Told
pub mod Listed
pub mod Defined
pub mod Rising
pub mod Spanned
pub mod Seen
pub mod Indexes
