pub mod Dotted
pub mod Lists
pub mod Placed
pub mod FieldKinds
pub mod Whole
pub mod Extended
pub mod TypeNumbers
