mod Places
mod First
mod Allowed
mod Plain
mod Rows
mod AnyRows
