pub mod Causes
pub mod Endings
pub mod Judged
pub mod Determined
pub mod Left
