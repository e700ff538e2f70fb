pub mod Grown
mod Lists
mod Rules
mod Places
mod Oneofs
mod Alike
mod Values
mod Rows
mod Whole
