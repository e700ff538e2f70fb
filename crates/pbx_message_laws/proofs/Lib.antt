mod Rows
pub mod Changes
pub mod Members
pub mod Changed
pub mod Listed
pub mod Settable
pub mod Items
pub mod Setting
pub mod Placed
pub mod Shared
pub mod DefaultTexts
pub mod DefaultRules
pub mod DefaultSettable
pub mod Typed
pub mod FieldNames
