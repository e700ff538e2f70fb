pub mod Reflect
