pub mod DescriptorShape
pub mod DescriptorRows
pub mod TypesRows
pub mod TypesShape
