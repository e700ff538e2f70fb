pub mod FileRules
pub mod OptionRules
pub mod EntryRules
pub mod EnumRules
pub mod RangeRules
pub mod Spans
pub mod Sets
