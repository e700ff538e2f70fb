pub mod Imports
pub mod Names
pub mod Look
