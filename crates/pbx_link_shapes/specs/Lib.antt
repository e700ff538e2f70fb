pub mod Starts
pub mod Items
pub mod Extending
pub mod Named
pub mod EnumNumbers
