pub mod ContentLaws
pub mod SameLaws
pub mod SetLaws
