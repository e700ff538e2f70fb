pub mod DescriptorsProper
pub mod WellKnownProper
