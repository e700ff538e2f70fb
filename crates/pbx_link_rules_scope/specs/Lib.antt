pub mod Rules
pub mod MapFields
pub mod Defaults
pub mod Digits
pub mod ExtensionNumbers
pub mod Known
