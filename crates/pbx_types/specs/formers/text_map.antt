pub mod TextMap
