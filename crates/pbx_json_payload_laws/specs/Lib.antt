pub mod Inside
pub mod PayloadLaws
pub mod Laws
